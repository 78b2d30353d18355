-- Lemmas about lists of exchanges: the inputs that a shell served, in order, with their outcomes.
use Rattle.std.proofs.Common.{◌≡◌, ◌||◌, Bool, true, false, cond, List, [], ◌∷◌, ◌++◌, Option, None, Some, ap, sym, append_assoc, append-nil, ◌∙◌, refl, subst}
use Rattle.std.specs.List.{list_any}
use Rattle.std.specs.Option.{option_or}
use Rattle.mcs_model.specs.BenchState.{BenchState}
use Rattle.mcs_model.specs.Fold.{fold}
use Rattle.mcs_session.proofs.Folds.{fold-append}
use Rattle.mcs_shell.specs.Inputs.{Input}
use Rattle.mcs_shell.specs.Serving.{WroteAnswers}
use Rattle.mcs_shell.specs.ShellState.{KnownBytes}
use Rattle.mcs_shell.specs.Transcript.{ArePossibleExchanges, Exchange, acknowledged_commands, answered_exchanges, end_caused_by_exchanges, end_caused_by, results_in_order, is_device_fault, reached_commands}
use Rattle.mcs_shell.specs.declared.ends.ShellEnd.{ShellEnd}
use Rattle.mcs_shell.specs.declared.ends.Outcome.{Outcome}
use Rattle.mcs_shell.specs.declared.ends.Outcome.TheVariants.{Device}

-- the state after these exchanges, which begin in the state `s`
abbrev pub state_after_exchanges : BenchState → List Exchange → BenchState
state_after_exchanges s exchanges = fold s (results_in_order acknowledged_commands s exchanges)

-- true if the device failed in one of these exchanges
abbrev pub has_device_fault : List Exchange → Bool
has_device_fault exchanges = list_any (λ (x : Exchange). is_device_fault x.outcome) exchanges

-- ---- results of exchanges, in order

pub results_in_order-append : {A : Type 0} (f : BenchState → Input → Outcome → List A) (s t : BenchState) (xs ys : List Exchange) → t ≡ state_after_exchanges s xs → results_in_order f s (xs ++ ys) ≡ results_in_order f s xs ++ results_in_order f t ys
results_in_order-append f s t [] ys e = ap (λ (u : BenchState). results_in_order f u ys) (sym e)
results_in_order-append f s t (x ∷ xs) ys e =
    let u = fold s (acknowledged_commands s x.input x.outcome) in
    ap (λ v. f s x.input x.outcome ++ v) (results_in_order-append f u t xs ys (e ∙ fold-append s (acknowledged_commands s x.input x.outcome) (results_in_order acknowledged_commands u xs)))
    ∙ sym (append_assoc (f s x.input x.outcome) (results_in_order f u xs) (results_in_order f t ys))

-- ---- exchanges that halt the shell

both_none_if_option_or_none : (x y : Option ShellEnd) → option_or x y ≡ None → (x ≡ None) × (y ≡ None)
both_none_if_option_or_none None y e = (refl, e)
both_none_if_option_or_none (Some h) y e = absurd (cc e)

pub some_is_not_none : (end : ShellEnd) → Some end ≡ None → ⊥
some_is_not_none end e = absurd (cc e)

pub option_or-none : (x : Option ShellEnd) → option_or x None ≡ x
option_or-none None = refl
option_or-none (Some h) = refl

pub end_caused_by_exchanges-append : (xs ys : List Exchange) → end_caused_by_exchanges xs ≡ None → end_caused_by_exchanges (xs ++ ys) ≡ end_caused_by_exchanges ys
end_caused_by_exchanges-append [] ys none = refl
end_caused_by_exchanges-append (x ∷ xs) ys none =
    let both = both_none_if_option_or_none (end_caused_by x.whole x.outcome) (end_caused_by_exchanges xs) none in
    ap (λ (h : Option ShellEnd). option_or h (end_caused_by_exchanges (xs ++ ys))) both.0 ∙ end_caused_by_exchanges-append xs ys both.1

answer_whole_if_no_end_caused : (whole : Bool) (o : Outcome) → end_caused_by whole o ≡ None → whole ≡ true
answer_whole_if_no_end_caused false o e = absurd (cc e)
answer_whole_if_no_end_caused true o e = refl

whole_exchange_included : (whole : Bool) (x : Exchange) (xs ys : List Exchange) → whole ≡ true → xs ≡ ys → cond whole (x ∷ xs) xs ≡ x ∷ ys
whole_exchange_included true x xs ys e same = ap (λ v. x ∷ v) same
whole_exchange_included false x xs ys e same = absurd (cc e)

pub all_answered_if_no_end_caused : (xs : List Exchange) → end_caused_by_exchanges xs ≡ None → answered_exchanges xs ≡ xs
all_answered_if_no_end_caused [] none = refl
all_answered_if_no_end_caused (x ∷ xs) none =
    let both = both_none_if_option_or_none (end_caused_by x.whole x.outcome) (end_caused_by_exchanges xs) none in
    whole_exchange_included x.whole x (answered_exchanges xs) xs (answer_whole_if_no_end_caused x.whole x.outcome both.0) (all_answered_if_no_end_caused xs both.1)

not_device_fault_if_no_end_caused : (whole : Bool) (o : Outcome) → end_caused_by whole o ≡ None → is_device_fault o ≡ false
not_device_fault_if_no_end_caused false o e = absurd (cc e)
not_device_fault_if_no_end_caused true Device e = absurd (cc e)
not_device_fault_if_no_end_caused true o e = refl

pub has_device_fault-append : (xs ys : List Exchange) → end_caused_by_exchanges xs ≡ None → has_device_fault (xs ++ ys) ≡ has_device_fault ys
has_device_fault-append [] ys none = refl
has_device_fault-append (x ∷ xs) ys none =
    let both = both_none_if_option_or_none (end_caused_by x.whole x.outcome) (end_caused_by_exchanges xs) none in
    ap (λ (b : Bool). b || has_device_fault (xs ++ ys)) (not_device_fault_if_no_end_caused x.whole x.outcome both.0) ∙ has_device_fault-append xs ys both.1

pub no_device_fault_if_no_end_caused : (exchanges : List Exchange) → end_caused_by_exchanges exchanges ≡ None → has_device_fault exchanges ≡ false
no_device_fault_if_no_end_caused exchanges none = ap has_device_fault (sym (append-nil exchanges)) ∙ has_device_fault-append exchanges [] none

pub or_false_right : (b : Bool) → (b || false) ≡ b
or_false_right true = refl
or_false_right false = refl

-- ---- commands that may have reached the disk, if the device did not fail

reached_equals_acknowledged : (s : BenchState) (i : Input) (o : Outcome) → is_device_fault o ≡ false → reached_commands s i o ≡ acknowledged_commands s i o
unfolding reached_commands acknowledged_commands
reached_equals_acknowledged s i Device h = absurd (cc h)
reached_equals_acknowledged s i o h = refl

pub both_false_if_or_false : (b c : Bool) → (b || c) ≡ false → (b ≡ false) × (c ≡ false)
both_false_if_or_false true c e = absurd (cc e)
both_false_if_or_false false c e = (refl, e)

pub all_reached_equal_acknowledged : (s : BenchState) (exchanges : List Exchange) → has_device_fault exchanges ≡ false → results_in_order reached_commands s exchanges ≡ results_in_order acknowledged_commands s exchanges
all_reached_equal_acknowledged s [] h = refl
all_reached_equal_acknowledged s (x ∷ exchanges) h =
    let both = both_false_if_or_false (is_device_fault x.outcome) (has_device_fault exchanges) h in
    let t = fold s (acknowledged_commands s x.input x.outcome) in
    ap (λ cs. cs ++ results_in_order reached_commands t exchanges) (reached_equals_acknowledged s x.input x.outcome both.0) ∙ ap (λ cs. acknowledged_commands s x.input x.outcome ++ cs) (all_reached_equal_acknowledged t exchanges both.1)

-- ---- two lists of exchanges, one after the other

pub is_possible-append : (live : Bool) (s : BenchState) (xs ys : List Exchange) → end_caused_by_exchanges xs ≡ None → ArePossibleExchanges live s xs → ArePossibleExchanges live (state_after_exchanges s xs) ys → ArePossibleExchanges live s (xs ++ ys)
is_possible-append live s [] ys none h k = k
is_possible-append live s (x ∷ xs) ys none h k =
    let t = fold s (acknowledged_commands s x.input x.outcome) in
    let both = both_none_if_option_or_none (end_caused_by x.whole x.outcome) (end_caused_by_exchanges xs) none in
    let possible_later : ArePossibleExchanges live (state_after_exchanges t xs) ys = subst (λ (u : BenchState). ArePossibleExchanges live u ys) (fold-append s (acknowledged_commands s x.input x.outcome) (results_in_order acknowledged_commands t xs)) k in
    (h.0, λ more. both.0, is_possible-append live t xs ys both.1 h.2 possible_later)

pub WroteAnswers-append : (s : BenchState) (xs ys : List Exchange) (a b c : KnownBytes) → WroteAnswers s xs a b → WroteAnswers (state_after_exchanges s xs) ys b c → WroteAnswers s (xs ++ ys) a c
WroteAnswers-append s [] ys a b c h k = subst (λ (v : KnownBytes). WroteAnswers s ys v c) h k
WroteAnswers-append s (x ∷ xs) ys a b c h k =
    let t = fold s (acknowledged_commands s x.input x.outcome) in
    let wrote_later : WroteAnswers (state_after_exchanges t xs) ys b c = subst (λ (u : BenchState). WroteAnswers u ys b c) (fold-append s (acknowledged_commands s x.input x.outcome) (results_in_order acknowledged_commands t xs)) k in
    (h.0, h.1, WroteAnswers-append t xs ys h.0 b c h.2 wrote_later)
