use Rattle.std.proofs.Common.{◌≡◌, ◌∙◌, ◌/◌, ◌%◌, ℕ, List, ap, rules, slice_index, slice_set}
use Rattle.mcs_check.specs.SpacedInputs.{number_at}
use Rattle.mcs_check.proofs.spacing.Spacing.write.Goals as goal

pub returns : goal.returns
returns c =
    let s = c.args.self in
    let first : List ℕ = slice_set c.args.bytes.now 0 s.last in
    let with_age : List ℕ = slice_set (slice_set (slice_set (slice_set first 1 (s.age % 256)) 2 (s.age / 256 % 256)) 3 (s.age / 65536 % 256)) 4 (s.age / 16777216) in
    let bytes : List ℕ = slice_set (slice_set (slice_set (slice_set with_age 5 (s.down % 256)) 6 (s.down / 256 % 256)) 7 (s.down / 65536 % 256)) 8 (s.down / 16777216) in
    let last : slice_index bytes 0 ≡ s.last = search rules in
    let age : number_at bytes 1 ≡ s.age = search rules in
    let down : number_at bytes 5 ≡ s.down = search rules in
    ap (λ (n : ℕ). record { last = n; age = number_at bytes 1; down = number_at bytes 5 }) last
    ∙ (ap (λ (n : ℕ). record { last = s.last; age = n; down = number_at bytes 5 }) age ∙ ap (λ (n : ℕ). record { last = s.last; age = s.age; down = n }) down)
