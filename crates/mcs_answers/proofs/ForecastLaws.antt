-- Lemmas: two consecutive traces make one trace, and counts agree with a trace.
use Rattle.std.proofs.Common.{◌≡◌, ℕ, ◌+◌, ◌-◌, ◌/◌, ◌%◌, true, false, cond, List, [], ◌∷◌, ◌++◌, codes, drop, get_or, length, map, inl, inr, refl, sym, ap, ◌∙◌, arith, eqb, nat_lt}
use Rattle.std.specs.Fmt.{decimal}
use Rattle.std.specs.List.{count_by, flat_map}
use Rattle.std.specs.Str.{bytes_eq}
use Rattle.std.proofs.lemmas.Bool.{cases_eq, cases_lt, false_from_ne_true}
use Rattle.std.proofs.lemmas.Bool.Decides.{nat_tests}
use Rattle.std.proofs.lemmas.Grind.{flat_map-append}
use Rattle.std.proofs.lemmas.List.{append-nil}
use Rattle.std.proofs.lemmas.List.Prefix.{end_rest}
use Rattle.std.proofs.lemmas.List.Sums.{sum_by-append}
use Rattle.std.proofs.lemmas.Slice.Eq.{bytes_eq-Decides}
use Rattle.mcs_model.specs.declared.command.Command.TheVariants.{Run}
use Rattle.mcs_model.specs.BenchState.{BenchState}
use Rattle.mcs_model.specs.Command.{after, machine_of, stops_of}
use Rattle.mcs_model.specs.QueryText.{address_text, hex_digit}
use Rattle.mcs_model.specs.Running.{after_run, run_length}
use Rattle.mcs_probe.specs.declared.probe.Probe.{Probe}
use Rattle.mcs_probe.specs.Forecast.{BegunInstruction, instructions_begun_in, begins_at_address, with_earlier_start, runs_at}
use Rattle.mcs_trace.proofs.Parts.{begun_instructions-add_up}
use Rattle.mcs_answers.specs.ForecastLaws.{is_line_at, trace_lines_from}
use Rattle.mcs_answers.specs.ForecastTexts.{trace_line, trace_lines}

trace-lines-of-mapped-instructions : (probes : List Probe) (m : ℕ) (begun : List BegunInstruction) → flat_map (trace_line probes) (map (with_earlier_start m) begun) ≡ flat_map (λ x. trace_line probes (with_earlier_start m x)) begun
trace-lines-of-mapped-instructions probes m [] = refl
trace-lines-of-mapped-instructions probes m (x ∷ begun) = ap (λ (l : List (List ℕ)). trace_line probes (with_earlier_start m x) ++ l) (trace-lines-of-mapped-instructions probes m begun)

pub traces-add-up : (probes : List Probe) (b : BenchState) (m n : ℕ) → run_length (stops_of b) (m + n) (machine_of b) ≡ m + n → trace_lines probes b (m + n) ≡ trace_lines probes b m ++ trace_lines_from probes m (after b (Run m)) n
traces-add-up probes b m n e =
    let first = instructions_begun_in (stops_of b) m (machine_of b) in
    let second = instructions_begun_in (stops_of b) n (after_run (stops_of b) m (machine_of b)) in
    ap (flat_map (trace_line probes)) (begun_instructions-add_up (stops_of b) m n (machine_of b) e)
    ∙ flat_map-append (trace_line probes) first (map (with_earlier_start m) second)
    ∙ ap (λ (l : List (List ℕ)). trace_lines probes b m ++ l) (trace-lines-of-mapped-instructions probes m second)

-- ---- counts

-- Different numbers have different hexadecimal digits.
hex-digit-injective : (a b : ℕ) → hex_digit a ≡ hex_digit b → a ≡ b
hex-digit-injective a b e =
    elim (cases_lt a 10) [
      | inl la ↦ elim (cases_lt b 10) [
        | inl lb ↦ (let s : nat_lt a 10 ≡ true = grind (arith, nat_tests) in let t : nat_lt b 10 ≡ true = grind (arith, nat_tests) in let h = rw (s, t) at e in omega arith)
        | inr gb ↦ (let s : nat_lt a 10 ≡ true = grind (arith, nat_tests) in let t : nat_lt b 10 ≡ false = grind (arith, nat_tests) in let h = rw (s, t) at e in absurd (omega arith))
      ]
      | inr ga ↦ elim (cases_lt b 10) [
        | inl lb ↦ (let s : nat_lt a 10 ≡ false = grind (arith, nat_tests) in let t : nat_lt b 10 ≡ true = grind (arith, nat_tests) in let h = rw (s, t) at e in absurd (omega arith))
        | inr gb ↦ (let s : nat_lt a 10 ≡ false = grind (arith, nat_tests) in let t : nat_lt b 10 ≡ false = grind (arith, nat_tests) in let h = rw (s, t) at e in omega arith)
      ]
    ]

-- Different addresses have different texts.
address-text-injective : (a b : ℕ) → address_text a ≡ address_text b → a ≡ b
address-text-injective a b e =
    let high : a / 256 ≡ b / 256 = hex-digit-injective (a / 256) (b / 256) (ap (λ (l : List ℕ). get_or l 0 0) e) in
    let middle : a / 16 % 16 ≡ b / 16 % 16 = hex-digit-injective (a / 16 % 16) (b / 16 % 16) (ap (λ (l : List ℕ). get_or l 1 0) e) in
    let low : a % 16 ≡ b % 16 = hex-digit-injective (a % 16) (b % 16) (ap (λ (l : List ℕ). get_or l 2 0) e) in
    omega arith

-- the line of an instruction in a trace without probes
abbrev plain_line : BegunInstruction → List ℕ
plain_line x = decimal x.cycles ++ codes " " ++ address_text x.before.0.pc

-- The line of an instruction ends with the address of the instruction.
plain-line-ends-with-address : (x : BegunInstruction) → drop (length (plain_line x) - 3) (plain_line x) ≡ address_text x.before.0.pc
plain-line-ends-with-address x = end_rest (plain_line x) (address_text x.before.0.pc) (decimal x.cycles ++ codes " ") refl

is_line_at-of-plain-line : (at : ℕ) (x : BegunInstruction) → is_line_at at (plain_line x) ≡ begins_at_address at x
is_line_at-of-plain-line at x =
    ap (λ (l : List ℕ). bytes_eq l (address_text at)) (plain-line-ends-with-address x)
    ∙ elim (cases_eq x.before.0.pc at) [
      | inl same ↦ (bytes_eq-Decides (address_text x.before.0.pc) (address_text at)).1 (ap address_text same) ∙ sym (let t : eqb x.before.0.pc at ≡ true = grind (arith, nat_tests) in t)
      | inr other ↦ false_from_ne_true (bytes_eq (address_text x.before.0.pc) (address_text at)) (λ t. other (address-text-injective x.before.0.pc at ((bytes_eq-Decides (address_text x.before.0.pc) (address_text at)).0 t))) ∙ sym (let f : eqb x.before.0.pc at ≡ false = grind (arith, nat_tests) in f)
    ]

-- In a trace without probes, nothing follows the address in a line.
trace-line-without-probes : (x : BegunInstruction) → trace_line [] x ≡ plain_line x ∷ []
trace-line-without-probes x = ap (λ (l : List ℕ). l ∷ []) (append-nil (plain_line x))

pub runs-equal-counted-lines : (at : ℕ) (begun : List BegunInstruction) → runs_at begun at ≡ count_by (is_line_at at) (flat_map (trace_line []) begun)
runs-equal-counted-lines at [] = refl
runs-equal-counted-lines at (x ∷ begun) =
    let rest = flat_map (trace_line []) begun in
    sum_by-append (λ (y : BegunInstruction). cond (begins_at_address at y) 1 0) (x ∷ []) begun
    ∙ ap (λ b. 0 + cond b 1 0 + runs_at begun at) (sym (is_line_at-of-plain-line at x))
    ∙ ap (λ k. 0 + cond (is_line_at at (plain_line x)) 1 0 + k) (runs-equal-counted-lines at begun)
    ∙ sym (sum_by-append (λ (l : List ℕ). cond (is_line_at at l) 1 0) (plain_line x ∷ []) rest)
    ∙ ap (λ (ls : List (List ℕ)). count_by (is_line_at at) (ls ++ rest)) (sym (trace-line-without-probes x))
