-- Lemmas about a function that tests the parts of a condition in order.
use Rattle.std.proofs.Common.{◌≡◌, ◌∙◌, Bool, false, sym, ◌↔◌}
use Rattle.std.specs.Prelude.{IsTrue}
use Rattle.std.proofs.lemmas.Bool.{false≢true}

-- if the test `b` of a necessary part `P` fails, the condition `Q` is false
pub decided_by_failed_part : (b : Bool) {P Q : Type 0} → b ≡ false → IsTrue b ↔ P → (Q → P) → IsTrue false ↔ Q
decided_by_failed_part b e h part = (λ t. absurd (false≢true t), λ q. sym e ∙ h.1 (part q))

-- if the last part `P` is equivalent to the condition `Q`, the test `b` of `P` decides `Q`
pub decided_by_last_part : (b : Bool) {P Q : Type 0} → IsTrue b ↔ P → (P → Q) → (Q → P) → IsTrue b ↔ Q
decided_by_last_part b h condition part = (λ t. condition (h.0 t), λ q. h.1 (part q))
