-- The order of moments, and states after a prefix of the commands.
use Rattle.std.proofs.Common.{◌≡◌, ◌+◌, ◌≤◌, ◌<◌, ℕ, Bool, cond, List, [], ◌∷◌, ◌++◌, length, nat_le, take, sym, ap, ◌∙◌, refl, arith, length-append, slice_get, Some, suc, zero}
use Rattle.std.proofs.lemmas.Bool.{le-leb, lt-leb}
use Rattle.std.proofs.lemmas.Grind.{common_steps}
use Rattle.std.proofs.lemmas.List.Sums.{count_by-le-length, sum_by-append, sum_by-cons}
use Rattle.std.proofs.Math.Seq.{take-append-add}
use Rattle.std.proofs.lemmas.List.{take_all}
use Rattle.mcs_model.specs.declared.command.Command.{Command}
use Rattle.mcs_model.specs.BenchState.{BenchState}
use Rattle.mcs_model.specs.Fold.{fold}
use Rattle.mcs_session.specs.Acknowledgements.{acknowledged_by, last_moment}
use Rattle.mcs_session.specs.KeptCommands.{IsAfterPrefix, RepresentsPrefix}
use Rattle.mcs_session.specs.Represents.{Represents}
use Rattle.mcs_session.proofs.Folds.{fold-append}
use Rattle.mcs_session.proofs.LogCommands.{AreRising}

-- ---- moments

pub clock_at_most_last_moment : (clock : ℕ) (ms : List ℕ) → AreRising clock ms → clock ≤ last_moment clock ms
clock_at_most_last_moment clock [] h = omega arith
clock_at_most_last_moment clock (m ∷ ms) h = let first = h.0 in let rest : m ≤ last_moment m ms = clock_at_most_last_moment m ms h.1 in omega (arith, first, rest)

pub last_moment_of_append : (clock : ℕ) (ms ns : List ℕ) → last_moment clock (ms ++ ns) ≡ last_moment (last_moment clock ms) ns
last_moment_of_append clock [] ns = refl
last_moment_of_append clock (m ∷ ms) ns = last_moment_of_append m ms ns

abbrev one_if_acknowledged_by : ℕ → ℕ → ℕ
one_if_acknowledged_by t m = cond (nat_le m t) 1 0

zero_if_moment_is_later : (t m : ℕ) → t < m → one_if_acknowledged_by t m ≡ 0
zero_if_moment_is_later t m h = ap (λ (b : Bool). cond b 1 0) (lt-leb m t h)

one_if_moment_is_past : (t m : ℕ) → m ≤ t → one_if_acknowledged_by t m ≡ 1
one_if_moment_is_past t m h = ap (λ (b : Bool). cond b 1 0) (le-leb m t h)

acknowledged-cons : (t m : ℕ) (ms : List ℕ) → acknowledged_by t (m ∷ ms) ≡ one_if_acknowledged_by t m + acknowledged_by t ms
acknowledged-cons t m ms = sum_by-cons (one_if_acknowledged_by t) m ms

pub acknowledged-append : (t : ℕ) (ms ns : List ℕ) → acknowledged_by t (ms ++ ns) ≡ acknowledged_by t ms + acknowledged_by t ns
acknowledged-append t ms ns = sum_by-append (one_if_acknowledged_by t) ms ns

pub acknowledged_at_most_all : (t : ℕ) (ms : List ℕ) → acknowledged_by t ms ≤ length ms
acknowledged_at_most_all t ms = count_by-le-length (λ m. nat_le m t) ms

-- no command was acknowledged by a time that is not later than the clock at the start
pub none_acknowledged_before_run : (t clock : ℕ) (ms : List ℕ) → t ≤ clock → AreRising clock ms → acknowledged_by t ms ≡ 0
none_acknowledged_before_run t clock [] le h = refl
none_acknowledged_before_run t clock (m ∷ ms) le h =
    let first_is_later = h.0 in
    let later : t < m = omega (arith, first_is_later, le) in
    let first = zero_if_moment_is_later t m later in
    let rest = none_acknowledged_before_run t m ms (omega (arith, later)) h.1 in
    let count_with_first = acknowledged-cons t m ms in omega (arith, first, rest, count_with_first)

pub none_acknowledged_before_moment : (t m : ℕ) → t < m → acknowledged_by t (m ∷ []) ≡ 0
none_acknowledged_before_moment t m h = acknowledged-cons t m [] ∙ ap (λ (n : ℕ). n + 0) (zero_if_moment_is_later t m h)

-- by the last moment, all commands were acknowledged
pub all_acknowledged_by_last_moment : (t clock : ℕ) (ms : List ℕ) → last_moment clock ms ≤ t → AreRising clock ms → acknowledged_by t ms ≡ length ms
all_acknowledged_by_last_moment t clock [] le h = refl
all_acknowledged_by_last_moment t clock (m ∷ ms) le h =
    let not_later_than_last = clock_at_most_last_moment m ms h.1 in
    let first = one_if_moment_is_past t m (omega (arith, le, not_later_than_last)) in
    let rest = all_acknowledged_by_last_moment t m ms le h.1 in
    let count_with_first = acknowledged-cons t m ms in omega (arith, first, rest, count_with_first)

-- by the moment with index `j`, at least `j + 1` commands were acknowledged
pub acknowledged_by_moment_at_index : (clock : ℕ) (ms : List ℕ) (j m : ℕ) → slice_get ms j ≡ Some m → AreRising clock ms → (clock ≤ m) × (j + 1 ≤ acknowledged_by m ms)
acknowledged_by_moment_at_index clock [] j m e h = absurd (cc e)
acknowledged_by_moment_at_index clock (n ∷ ms) zero m e h =
    let equal_moments : n ≡ m = cc e in
    let first = one_if_moment_is_past m n (omega (arith, equal_moments)) in
    let count_with_first = acknowledged-cons m n ms in
    let first_is_later = h.0 in
    (omega (arith, first_is_later, equal_moments), omega (arith, first, count_with_first))
acknowledged_by_moment_at_index clock (n ∷ ms) (suc j) m e h =
    let rest = acknowledged_by_moment_at_index n ms j m e h.1 in
    let first = one_if_moment_is_past m n rest.0 in
    let count_with_first = acknowledged-cons m n ms in
    let first_is_later = h.0 in
    (omega (arith, first_is_later, rest.0), omega (arith, first, count_with_first, rest.1))

-- ---- prefixes

take_within_first_list : (cs ds : List Command) (n : ℕ) → n ≤ length cs → take n (cs ++ ds) ≡ take n cs
take_within_first_list cs ds n h = grind (arith, common_steps)

take_past_first_list : (cs ds : List Command) (n : ℕ) → take (length cs + n) (cs ++ ds) ≡ cs ++ take n ds
take_past_first_list cs ds n = take-append-add cs ds n

-- a prefix of the first commands is a prefix of all commands
after_prefix_of_longer_list : (s : BenchState) (cs ds : List Command) (j : ℕ) (t : BenchState) → IsAfterPrefix s cs j t → IsAfterPrefix s (cs ++ ds) j t
after_prefix_of_longer_list s cs ds j t h = record {
  count = h.count;
  at_least = h.at_least;
  at_most = omega (arith, h.at_most, length-append cs ds);
  state = h.state ∙ ap (fold s) (sym (take_within_first_list cs ds h.count h.at_most));
}

-- all of the first commands and a prefix of the later commands are a prefix of all commands
after_prefix_of_both_lists : (s t : BenchState) (cs ds : List Command) (i j : ℕ) (u : BenchState) → t ≡ fold s cs → i ≤ length cs + j → IsAfterPrefix t ds j u → IsAfterPrefix s (cs ++ ds) i u
after_prefix_of_both_lists s t cs ds i j u e few h = record {
  count = length cs + h.count;
  at_least = omega (arith, few, h.at_least);
  at_most = omega (arith, h.at_most, length-append cs ds);
  state = h.state ∙ ap (λ (v : BenchState). fold v (take h.count ds)) e ∙ sym (fold-append s cs (take h.count ds)) ∙ ap (fold s) (sym (take_past_first_list cs ds h.count));
}

after_prefix_with_lower_minimum : (s : BenchState) (cs : List Command) (i j : ℕ) (t : BenchState) → i ≤ j → IsAfterPrefix s cs j t → IsAfterPrefix s cs i t
after_prefix_with_lower_minimum s cs i j t le h = record { count = h.count; at_least = omega (arith, le, h.at_least); at_most = h.at_most; state = h.state }

pub represents_prefix_of_longer_list : (s : BenchState) (cs ds : List Command) (j : ℕ) (file : List ℕ) → RepresentsPrefix s cs j file → RepresentsPrefix s (cs ++ ds) j file
represents_prefix_of_longer_list s cs ds j file h = record { state = h.state; represents = h.represents; after = after_prefix_of_longer_list s cs ds j h.state h.after }

pub represents_prefix_of_both_lists : (s t : BenchState) (cs ds : List Command) (i j : ℕ) (file : List ℕ) → t ≡ fold s cs → i ≤ length cs + j → RepresentsPrefix t ds j file → RepresentsPrefix s (cs ++ ds) i file
represents_prefix_of_both_lists s t cs ds i j file e few h = record { state = h.state; represents = h.represents; after = after_prefix_of_both_lists s t cs ds i j h.state e few h.after }

pub represents_prefix_with_lower_minimum : (s : BenchState) (cs : List Command) (i j : ℕ) (file : List ℕ) → i ≤ j → RepresentsPrefix s cs j file → RepresentsPrefix s cs i file
represents_prefix_with_lower_minimum s cs i j file le h = record { state = h.state; represents = h.represents; after = after_prefix_with_lower_minimum s cs i j h.state le h.after }

-- if the prefix must have at least as many commands as the list, the prefix is the whole list
pub represents_state_after_all_commands : (s : BenchState) (cs : List Command) (j : ℕ) (file : List ℕ) → length cs ≤ j → RepresentsPrefix s cs j file → Represents file (fold s cs)
represents_state_after_all_commands s cs j file all h =
    let equal_states : h.state ≡ fold s cs = h.after.state ∙ ap (fold s) (take_all h.after.count cs (omega (arith, all, h.after.at_least))) in
    rw (← equal_states) h.represents

-- the empty prefix leaves the state unchanged
pub represents_empty_prefix : (s : BenchState) (cs : List Command) (file : List ℕ) → Represents file s → RepresentsPrefix s cs 0 file
represents_empty_prefix s cs file h = record { state = s; represents = h; after = record { count = 0; at_least = omega arith; at_most = omega arith; state = refl } }

pub represents_prefix_of_one_command : (s t : BenchState) (c : Command) (j : ℕ) (file : List ℕ) → t ≡ fold s (c ∷ []) → j ≤ 1 → Represents file t → RepresentsPrefix s (c ∷ []) j file
represents_prefix_of_one_command s t c j file e le h = record { state = t; represents = h; after = record { count = 1; at_least = le; at_most = omega arith; state = e } }
