use Rattle.std.proofs.Common.{◌≡◌, ◌∙◌, ◌++◌, ◌∷◌, [], ℕ, List, get_or, false, true, refl, ap}
use Rattle.mcs_check.specs.declared.conditions.Condition.{Condition}
use Rattle.mcs_check.specs.declared.conditions.Condition.TheVariants.{Compare}
use Rattle.mcs_check.specs.Conditions.{elapsed_byte_comparison}
use Rattle.mcs_check.proofs.Limiting.{lists_beyond_limit, limited, append-three}
use Rattle.mcs_check.proofs.stopwatch.add_limit.Goals as goal

pub returns : goal.returns
returns c = λ s.
    let bytes = c.bytes.result in
    let x = get_or bytes 0 0 in
    let y = get_or bytes 1 0 in
    let z = get_or bytes 2 0 in
    let never_lists = c.args.never_lists.now.items in
    let first : c.of.result ≡ Compare (elapsed_byte_comparison 0 0 x false) ∷ [] =
    c.of.ensures ∙ c.in_ok-above.ensures.items ∙ (rw c.byte_is_above.ensures refl) in
    let second : c.of-2.result ≡ Compare (elapsed_byte_comparison 0 x x true) ∷ Compare (elapsed_byte_comparison 1 0 y false) ∷ [] =
    c.of-2.ensures ∙ c.in_ok-above-2.ensures.items ∙ (rw (c.byte_equals.ensures, c.byte_is_above-2.ensures) refl) in
    let third : c.of-3.result ≡ Compare (elapsed_byte_comparison 0 x x true) ∷ Compare (elapsed_byte_comparison 1 y y true) ∷ Compare (elapsed_byte_comparison 2 0 z false) ∷ [] =
    c.of-3.ensures ∙ c.in_ok-above-3.ensures.items ∙ (rw (c.byte_equals-2.ensures, c.byte_equals-3.ensures, c.byte_is_above-3.ensures) refl) in
    limited c.args.limit never_lists c.push-3.new.self.items s
    (c.in_ok-push-3.ensures.items
    ∙ ap (λ (xs : List (List Condition)). xs ++ c.of-3.result ∷ []) (c.in_ok-push-2.ensures.items ∙ ap (λ (xs : List (List Condition)). xs ++ c.of-2.result ∷ []) c.in_ok-push.ensures.items)
    ∙ append-three never_lists c.of.result c.of-2.result c.of-3.result
    ∙ ap (λ (cs : List Condition). never_lists ++ cs ∷ c.of-2.result ∷ c.of-3.result ∷ []) first
    ∙ ap (λ (cs : List Condition). never_lists ++ (Compare (elapsed_byte_comparison 0 0 x false) ∷ []) ∷ cs ∷ c.of-3.result ∷ []) second
    ∙ ap (λ (cs : List Condition). never_lists ++ (Compare (elapsed_byte_comparison 0 0 x false) ∷ []) ∷ (Compare (elapsed_byte_comparison 0 x x true) ∷ Compare (elapsed_byte_comparison 1 0 y false) ∷ []) ∷ cs ∷ []) third
    ∙ ap (λ (bs : List ℕ). never_lists ++ lists_beyond_limit (get_or bs 0 0) (get_or bs 1 0) (get_or bs 2 0)) c.bytes.ensures)
