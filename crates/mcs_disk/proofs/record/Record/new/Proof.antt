-- A new record occupies no memory. Its ghost fields hold the given initial bytes and an empty list
-- of notes.
use Rattle.std.proofs.Common.{List, [], ◌∷◌, refl, length, ◌≡◌}
use mir.Syntax.{a_type, named}
use mir.MapTy.{inst_fn}
use mir.Val.{Val, vstruct, vcons, vnil}
use base.Logic.{SProp}
use types.Kit.{‵, raw, ◌⊛◌, ◌$◌, ◌∵◌, !, qed, by, keep, split, fjoin, use0}
use types.Run.{no_more, and_then, returns, enter}
use types.Part.{agg}
use types.ByLocal.{alloc_all, pass_all, free_all, look_at, get, sets}
use contract.Monad.{fact, fact_i}
use contract.Running.{tables}
use base.Logic.{emp}
use denote.Exit.{yes}
use denote.Builtin.{u8}
use denote.Param.{param, layouts}
use denote.RattleType.{RattleType, owns}
use denote.Shadow.{pure_i}
use denote.Signature.{plain, shr_slice_of, types_at}
use denote.Slice.{slice_val, shr_slice_vals, shr_slice_Tells}
use denote.Steps.{nothing}
use denote.Triple.Entry.{alive}
use denote.Triple.Walked.{Stays, stay_dropped, walk_of, Goes-dropped}
use Rattle.std.proofs.raw_atomic.Walks.{proved, leaves}
use Rattle.mcs_disk.specs.contracts.record.Record as record_type
use Rattle.mcs_disk.specs.contracts.record.Record.new.{ended, clauses}
use Rattle.mcs_disk.specs.contracts.record.Record.new.Key.{name as #self}
use Rattle.mcs_disk.proofs.record.Record.new.Statement.{statement}
use Rattle.mcs_disk.proofs.record.Record.new.Code as code

abbrev v : Val
v = vstruct (vcons (vstruct vnil) vnil)

pub new_spec : {M : Type 1} → statement M
new_spec 𝓤 𝓛 𝓜 𝓡 wired T L =
    let H = 𝓛.H in let 𝓣 = tables 𝓤 H 𝓜 𝓡 𝓡.env in let R : RattleType = param 0 T in let En = ended T in let c = clauses T 𝓛 𝓜.mem 𝓡.returns in
    let fn = inst_fn (layouts (a_type ∷ []) (T, tt)) code.function in
    let hs : Stays En.signature.params En.kept = (stay_dropped (shr_slice_of (0 ∷ []) tt (plain (λ _. u8))) yes, tt) in
    proved 𝓛 En hs c 𝓜 𝓡 (Goes-dropped 𝓛 2 (shr_slice_of (0 ∷ []) tt (plain (λ _. u8))) yes (λ κs x f. refl), tt) (#self (layouts (a_type ∷ []) (T, tt))) fn (code.unfolded 𝓤 H 𝓜 𝓡 wired (T, tt))
    (λ κs. (shr_slice_vals, tt)) (λ κs. (shr_slice_Tells (named 0) κs.0 u8, tt)) (λ κs qs bounds a gh are.
    let s = a.0 in let r : (record_type.the_row R).Denot = record { marker = record {}; start = s.now; notes = [] } in
    let at : List Val × Unit {0} = (slice_val s.ref_ptr (length s.now) ∷ [], tt) in
    let y : (walk_of 𝓛 En hs c).Ghost = ((κs, qs, bounds, a, at), gh) in let Post : Val → SProp 𝓤 = (walk_of 𝓛 En hs c).post y in let Made : Type 0 = (r.start ≡ s.now) × (r.notes ≡ []) in
    qed 𝓛 ((raw (alive 𝓛 En.signature κs qs) ⊛ ‵ (owns (types_at En.signature.params κs) a at)) ∷ raw ((c κs a).requires gh) ∷ []) ∵ split ! $ keep ! (0 ∷ []) $
    enter ! 𝓣.C 𝓣.Λ fn (slice_val s.ref_ptr (length s.now) ∷ []) Post $ alloc_all ! (λ l. pass_all ! refl ((tt, (tt, (record { fits = are.0.0.1.0 }, tt))), tt) $
    sets ! (agg ! (no_more !)) refl (tt, tt) $ sets ! (agg ! (and_then ! (get ! refl) (no_more !))) refl (tt, (tt, tt)) $
    returns ! (look_at ! 0 refl) $ free_all ! refl $
    pure_i ! ((record_type.the_row R).own_val r (v ∷ [])) ((λ vss. (tt, ((λ uss. (tt, tt)), tt))), tt) (((vstruct vnil ∷ [], tt), (refl, ((tt, (refl, tt)), tt))), tt) $
    use0 𝓛 (raw (fact 𝓤 Made)) (fact_i 𝓤 Made (emp 𝓤) (refl, refl)) $ nothing ! $ nothing ! $ fjoin ! $
    keep ! (3 ∷ 0 ∷ 2 ∷ 1 ∷ []) $ by ! (leaves 𝓛 En hs c y v r (tt, tt) (tt, tt))))
