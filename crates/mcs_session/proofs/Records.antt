-- Records that encode consecutive commands, and the state that a snapshot and records represent.
use Rattle.std.proofs.Common.{◌≡◌, ℕ, List, [], ◌∷◌, ◌++◌, None, sym, ◌∙◌, ap, subst, refl, take, drop, slice_get, Some, append_assoc, take-append-drop, ◌+◌, ◌≤◌, ◌<◌, arith}
use Rattle.std.proofs.lemmas.List.{take_more}
use Rattle.std.proofs.lemmas.List.Sums.{sum_by-cons, sum_by_push}
use Rattle.std.proofs.lemmas.Option.{slice_get_within, get_or_from_slice_get}
use Rattle.mcs_model.specs.declared.command.Command.{Command}
use Rattle.mcs_model.specs.BenchState.{BenchState}
use Rattle.mcs_model.specs.Command.{refusal, after}
use Rattle.mcs_model.specs.Fold.{fold}
use Rattle.mcs_codec.specs.Codec.{EncodesCommandBy, EncodesStateBy}
use Rattle.mcs_codec.specs.declared.versions.Version.{Version}
use Rattle.mcs_codec.proofs.CommandCodec.{encoded_command_is_unique}
use Rattle.mcs_codec.proofs.StateCodec.{encoded_state_is_unique}
use Rattle.mcs_model.specs.declared.limits.TheConstants.{REPLAY_CYCLES}
use Rattle.mcs_session.specs.Invariant.{IsReplayed}
use Rattle.mcs_session.specs.Cycles.{log_cycles, replay_cycles}
use Rattle.mcs_session.specs.Represents.{ReplaysCommands, RecordsRepresent}
use Rattle.mcs_session.proofs.Folds.{fold-append}

-- a snapshot encodes at most one state
snapshot_state_is_unique : (v : Version) (snap : List ℕ) (s t : BenchState) → EncodesStateBy v snap s → EncodesStateBy v snap t → s ≡ t
snapshot_state_is_unique v snap s t a b = (encoded_state_is_unique snap v v s t a b).1

-- if a record that encodes an accepted command is appended, the records replay this command too
pub replays_appended_command : (v : Version) (s : BenchState) (rs : List (List ℕ)) (cs : List Command) (r : List ℕ) (c : Command) → ReplaysCommands v s rs cs → EncodesCommandBy v r c → refusal (fold s cs) c ≡ None → ReplaysCommands v s (rs ++ r ∷ []) (cs ++ c ∷ [])
replays_appended_command v s [] [] r c h spells accepted = (spells, accepted, tt)
replays_appended_command v s [] (d ∷ cs) r c h spells accepted = absurd h
replays_appended_command v s (q ∷ rs) [] r c h spells accepted = absurd h
replays_appended_command v s (q ∷ rs) (d ∷ cs) r c h spells accepted = (h.0, h.1, replays_appended_command v (after s d) rs cs r c (h.2) spells accepted)

-- if one of the records encodes no accepted command, the records replay no list of commands
pub no_replay_with_rejected_record : (v : Version) (s : BenchState) (rs : List (List ℕ)) (cs ds : List Command) (r : List ℕ) (more : List (List ℕ)) → ReplaysCommands v s rs cs
    → ((c : Command) → EncodesCommandBy v r c → refusal (fold s cs) c ≡ None → ⊥) → ReplaysCommands v s (rs ++ r ∷ more) ds → ⊥
no_replay_with_rejected_record v s [] [] [] r more h none k = k
no_replay_with_rejected_record v s [] [] (d ∷ ds) r more h none k = none d k.0 k.1
no_replay_with_rejected_record v s [] (c ∷ cs) ds r more h none k = h
no_replay_with_rejected_record v s (q ∷ rs) [] ds r more h none k = h
no_replay_with_rejected_record v s (q ∷ rs) (c ∷ cs) [] r more h none k = k
no_replay_with_rejected_record v s (q ∷ rs) (c ∷ cs) (d ∷ ds) r more h none k =
    let equal_commands : d ≡ c = encoded_command_is_unique q d c k.0.0 h.0.0 in
    no_replay_with_rejected_record v (after s c) rs cs ds r more (h.2) none (subst (λ (x : Command). ReplaysCommands v (after s x) (rs ++ r ∷ more) ds) equal_commands (k.2))

-- records encode at most one list of commands
pub replayed_commands_are_unique : (v : Version) (s : BenchState) (rs : List (List ℕ)) (cs ds : List Command) → ReplaysCommands v s rs cs → ReplaysCommands v s rs ds → cs ≡ ds
replayed_commands_are_unique v s [] [] [] h k = refl
replayed_commands_are_unique v s [] [] (d ∷ ds) h k = absurd k
replayed_commands_are_unique v s [] (c ∷ cs) ds h k = absurd h
replayed_commands_are_unique v s (q ∷ rs) [] ds h k = absurd h
replayed_commands_are_unique v s (q ∷ rs) (c ∷ cs) [] h k = absurd k
replayed_commands_are_unique v s (q ∷ rs) (c ∷ cs) (d ∷ ds) h k =
    let equal_commands : d ≡ c = encoded_command_is_unique q d c k.0.0 h.0.0 in
    let rest : cs ≡ ds = replayed_commands_are_unique v (after s c) rs cs ds (h.2) (subst (λ (x : Command). ReplaysCommands v (after s x) rs ds) equal_commands (k.2)) in
    rw (equal_commands, rest) refl

-- equal snapshots and records have the same start state and the same commands
pub start_and_commands_are_unique : (v : Version) (snap other : List ℕ) (records more : List (List ℕ)) (s t : BenchState) → snap ≡ other → records ≡ more → (a : RecordsRepresent v snap records s) (b : RecordsRepresent v other more t)
    → (a.start ≡ b.start) × (a.commands ≡ b.commands)
start_and_commands_are_unique v snap other records more s t e f a b =
    let start : a.start ≡ b.start = snapshot_state_is_unique v snap a.start b.start a.snapshot (subst (λ (x : List ℕ). EncodesStateBy v x b.start) (sym e) b.snapshot) in
    let replays : ReplaysCommands v a.start records b.commands = subst (λ (x : BenchState). ReplaysCommands v x records b.commands) (sym start) (subst (λ (x : List (List ℕ)). ReplaysCommands v b.start x b.commands) (sym f) b.replays) in
    (start, replayed_commands_are_unique v a.start records a.commands b.commands a.replays replays)

-- equal snapshots and records represent the same state
pub state_of_records_is_unique : (v : Version) (snap other : List ℕ) (records more : List (List ℕ)) (s t : BenchState) → snap ≡ other → records ≡ more → RecordsRepresent v snap records s → RecordsRepresent v other more t → s ≡ t
state_of_records_is_unique v snap other records more s t e f a b =
    let equal_start_and_commands = start_and_commands_are_unique v snap other records more s t e f a b in
    a.state ∙ ap (fold a.start) equal_start_and_commands.1 ∙ ap (λ (x : BenchState). fold x b.commands) equal_start_and_commands.0 ∙ sym b.state

-- a list split into the items before index `i`, the item at index `i`, and the items after this
-- item
pub split_at_index : {A : Type 0} (xs : List A) (r : A) (i : ℕ) → slice_get xs i ≡ Some r → (more : List A) × (xs ≡ take i xs ++ r ∷ more)
split_at_index xs r i e =
    let inside = slice_get_within xs i r e in
    let next : take (i + 1) xs ≡ take i xs ++ r ∷ [] = take_more xs i r inside ∙ ap (λ v. take i xs ++ v ∷ []) (get_or_from_slice_get xs i r r e) in
    (drop (i + 1) xs, sym (take-append-drop (i + 1) xs) ∙ ap (λ v. v ++ drop (i + 1) xs) next ∙ append_assoc (take i xs) (r ∷ []) (drop (i + 1) xs))

pub take_with_next_element : {A : Type 0} (xs : List A) (r : A) (i : ℕ) → slice_get xs i ≡ Some r → take (i + 1) xs ≡ take i xs ++ r ∷ []
take_with_next_element xs r i e = take_more xs i r (slice_get_within xs i r e) ∙ ap (λ v. take i xs ++ v ∷ []) (get_or_from_slice_get xs i r r e)

pub no_state_with_rejected_record : (v : Version) (snap : List ℕ) (records : List (List ℕ)) (r : List ℕ) (i : ℕ) (s t : BenchState) → slice_get records i ≡ Some r → RecordsRepresent v snap (take i records) s
    → ((c : Command) → EncodesCommandBy v r c → refusal s c ≡ None → ⊥) → RecordsRepresent v snap records t → ⊥
no_state_with_rejected_record v snap records r i s t e a none b =
    let start = snapshot_state_is_unique v snap b.start a.start b.snapshot a.snapshot in
    let replays : ReplaysCommands v a.start records b.commands = subst (λ (x : BenchState). ReplaysCommands v x records b.commands) start b.replays in
    let split = split_at_index records r i e in
    let replays_all : ReplaysCommands v a.start (take i records ++ r ∷ split.0) b.commands = subst (λ (x : List (List ℕ)). ReplaysCommands v a.start x b.commands) split.1 replays in
    no_replay_with_rejected_record v a.start (take i records) a.commands b.commands r (split.0) a.replays
    (λ c spells accepted. none c spells (subst (λ (x : BenchState). refusal x c ≡ None) (sym a.state) accepted)) replays_all

-- ---- the cycle count of a log

-- the cycle count of a log is at least that of its first records, including the record `r`
log_cycles_at_least_those_of_prefix : (v : Version) (s : BenchState) (rs : List (List ℕ)) (cs ds : List Command) (r : List ℕ) (c : Command) (more : List (List ℕ)) → ReplaysCommands v s rs cs → EncodesCommandBy v r c → ReplaysCommands v s (rs ++ r ∷ more) ds
    → log_cycles cs + replay_cycles c ≤ log_cycles ds
log_cycles_at_least_those_of_prefix v s [] [] [] r c more h spells k = absurd k
log_cycles_at_least_those_of_prefix v s [] [] (d ∷ ds) r c more h spells k =
    let equal_cycles : replay_cycles d ≡ replay_cycles c = ap replay_cycles (encoded_command_is_unique r d c k.0.0 spells.0) in
    let total_cycles = sum_by-cons replay_cycles d ds in omega (arith, equal_cycles, total_cycles)
log_cycles_at_least_those_of_prefix v s [] (d ∷ cs) ds r c more h spells k = absurd h
log_cycles_at_least_those_of_prefix v s (q ∷ rs) [] ds r c more h spells k = absurd h
log_cycles_at_least_those_of_prefix v s (q ∷ rs) (d ∷ cs) [] r c more h spells k = absurd k
log_cycles_at_least_those_of_prefix v s (q ∷ rs) (d ∷ cs) (e ∷ ds) r c more h spells k =
    let equal_commands : e ≡ d = encoded_command_is_unique q e d k.0.0 h.0.0 in
    let rest = log_cycles_at_least_those_of_prefix v (after s d) rs cs ds r c more (h.2) spells (subst (λ (x : Command). ReplaysCommands v (after s x) (rs ++ r ∷ more) ds) equal_commands (k.2)) in
    let equal_cycles : replay_cycles e ≡ replay_cycles d = ap replay_cycles equal_commands in
    let left = sum_by-cons replay_cycles d cs in
    let right = sum_by-cons replay_cycles e ds in omega (arith, rest, equal_cycles, left, right)

-- if the next command makes the cycle count exceed its limit, the records represent no state
pub no_state_with_too_many_cycles : (v : Version) (snap : List ℕ) (records : List (List ℕ)) (r : List ℕ) (i cycles : ℕ) (s t : BenchState) (c : Command) → slice_get records i ≡ Some r → IsReplayed v snap (take i records) cycles s
    → EncodesCommandBy v r c → REPLAY_CYCLES < cycles + replay_cycles c → RecordsRepresent v snap records t → ⊥
no_state_with_too_many_cycles v snap records r i cycles s t c e a spells over b =
    let start = snapshot_state_is_unique v snap b.start a.records_represent.start b.snapshot a.records_represent.snapshot in
    let replays : ReplaysCommands v a.records_represent.start records b.commands = subst (λ (x : BenchState). ReplaysCommands v x records b.commands) start b.replays in
    let split = split_at_index records r i e in
    let replays_all : ReplaysCommands v a.records_represent.start (take i records ++ r ∷ split.0) b.commands = subst (λ (x : List (List ℕ)). ReplaysCommands v a.records_represent.start x b.commands) split.1 replays in
    let least = log_cycles_at_least_those_of_prefix v a.records_represent.start (take i records) a.records_represent.commands b.commands r c (split.0) a.records_represent.replays spells replays_all in
    let count = a.count in
    let bounded = b.bounded in
    let none : ⊥ = omega (arith, least, count, bounded, over) in none

-- If a record that encodes an accepted command is appended, the records represent the state after
-- this command. The cycle count must stay within the limit of a log.
unfoldable pub records_represent_appended_command : (v : Version) (snap r : List ℕ) (records : List (List ℕ)) (s : BenchState) (c : Command) (p : RecordsRepresent v snap records s) → EncodesCommandBy v r c → refusal s c ≡ None
    → log_cycles p.commands + replay_cycles c ≤ REPLAY_CYCLES → RecordsRepresent v snap (records ++ r ∷ []) (after s c)
records_represent_appended_command v snap r records s c p spells accepted room = record {
  start = p.start;
  snapshot = p.snapshot;
  commands = p.commands ++ c ∷ [];
  replays = replays_appended_command v p.start records p.commands r c p.replays spells (subst (λ (t : BenchState). refusal t c ≡ None) p.state accepted);
  bounded = let total_cycles = sum_by_push replay_cycles p.commands c in omega (arith, total_cycles, room);
  state = ap (λ (t : BenchState). after t c) p.state ∙ sym (fold-append p.start p.commands (c ∷ []));
}

pub replayed_with_appended_command : (v : Version) (snap r : List ℕ) (records : List (List ℕ)) (cycles more : ℕ) (s : BenchState) (c : Command) → IsReplayed v snap records cycles s → EncodesCommandBy v r c → refusal s c ≡ None
    → more ≡ replay_cycles c → cycles + more ≤ REPLAY_CYCLES → IsReplayed v snap (records ++ r ∷ []) (cycles + more) (after s c)
unfolding records_represent_appended_command
replayed_with_appended_command v snap r records cycles more s c p spells accepted is room =
    let count = p.count in
    record {
      records_represent = records_represent_appended_command v snap r records s c p.records_represent spells accepted (omega (arith, count, is, room));
      count = let total_cycles = sum_by_push replay_cycles p.records_represent.commands c in omega (arith, total_cycles, count, is);
    }

-- a snapshot without records represents the state that it encodes, with a cycle count of 0
pub replayed_without_records : (v : Version) (snap : List ℕ) (s : BenchState) → EncodesStateBy v snap s → IsReplayed v snap [] 0 s
replayed_without_records v snap s spells = record {
  records_represent = record { start = s; snapshot = spells; commands = []; replays = tt; bounded = omega arith; state = refl };
  count = refl;
}

-- records that represent a state have the version of their snapshot
pub records_have_version_of_snapshot : (v version : Version) (snap : List ℕ) (records : List (List ℕ)) (start s : BenchState) → EncodesStateBy version snap start → RecordsRepresent v snap records s → RecordsRepresent version snap records s
records_have_version_of_snapshot v version snap records start s spells pair = subst (λ w. RecordsRepresent w snap records s) (encoded_state_is_unique snap v version pair.start start pair.snapshot spells).0 pair
