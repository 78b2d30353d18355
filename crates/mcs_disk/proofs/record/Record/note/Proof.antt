-- The body of `note` is empty. The proof opens the borrow of the record, and closes the borrow with
-- a record that has one more note.
use Rattle.std.proofs.Common.{ℕ, List, [], ◌∷◌, refl, length}
use mir.Syntax.{a_type, named}
use mir.MapTy.{inst_fn}
use mir.Val.{Val, vunit, vptr}
use base.Logic.{SProp, id⊢}
use base.Fml.{Fml, ftrue, fsep, flft}
use types.Kit.{‵, raw, ◌⊛◌, ◌$◌, ◌∵◌, !, qed, move, keep, drop, use1, split, join, fsplit, fsplit3, fjoin, fjoin3, feq_i, suffices, frame, done}
use types.Run.{unit_lit, of_opd, returns, enter}
use types.ByLocal.{alloc_all, pass_all, free_all, look_at, sets}
use contract.Running.{tables}
use denote.Exit.{yes}
use denote.Builtin.{u8}
use denote.Param.{param, layouts}
use denote.RattleType.{RattleType, owns}
use denote.Ref.{mut_vals, mut_Tells, shr_vals, shr_Tells}
use denote.Signature.{plain, types_at}
use denote.Slice.{slice_val, shr_slice_vals, shr_slice_Tells}
use denote.Steps.{opens, closes}
use denote.Triple.Walked.{says, ends_at, Stays, stay_ref, stay_none_ref, stay_none_slice, walk_of, Goes-ref, Goes-none_ref, Goes-none_slice}
use Rattle.std.proofs.raw_atomic.Walks.{proved}
use Rattle.mcs_disk.specs.contracts.record.Record as record_type
use Rattle.mcs_disk.specs.contracts.record.Record.note.{ended, clauses}
use Rattle.mcs_disk.specs.contracts.record.Record.note.Key.{name as #self}
use Rattle.mcs_disk.proofs.record.Record.note.Statement.{statement}
use Rattle.mcs_disk.proofs.record.Record.note.Code as code

pub note_spec : {M : Type 1} → statement M
note_spec 𝓤 𝓛 𝓜 𝓡 wired T L =
    let H = 𝓛.H in let 𝓣 = tables 𝓤 H 𝓜 𝓡 𝓡.env in let R : RattleType = param 0 T in let En = ended T in let c = clauses T 𝓛 𝓜.mem 𝓡.returns in
    let Z : RattleType = record_type.the_row R in let fn = inst_fn (layouts (a_type ∷ []) (T, tt)) code.function in
    let hs : Stays En.signature.params En.kept = (stay_ref (0 ∷ []) tt (plain (λ _. Z)), (stay_none_ref (1 ∷ []) tt (plain (λ _. R)) yes, (stay_none_slice (2 ∷ []) tt (plain (λ _. u8)) yes, tt))) in
    proved 𝓛 En hs c 𝓜 𝓡 (Goes-ref 𝓛 4 0 tt (plain (λ _. Z)), (Goes-none_ref 𝓛 4 (1 ∷ []) tt (plain (λ _. R)) yes, (Goes-none_slice 𝓛 4 (2 ∷ []) tt (plain (λ _. u8)) yes, tt)))
    (#self (layouts (a_type ∷ []) (T, tt))) fn (code.unfolded 𝓤 H 𝓜 𝓡 wired (T, tt))
    (λ κs. (mut_vals, (shr_vals, (shr_slice_vals, tt)))) (λ κs. (mut_Tells (named 0) κs.0 Z, (shr_Tells (named 1) κs.1.0 R, (shr_slice_Tells (named 2) κs.1.1.0 u8, tt)))) (λ κs qs bounds a gh are.
    let b : ℕ = a.0.ref_ptr.0 in let o : ℕ = a.0.ref_ptr.1 in let h = a.0.now in let k = a.1.0 in let s = a.1.1.0 in
    let h' : Z.Denot = record { marker = h.marker; start = h.start; notes = (k.now, s.now) ∷ h.notes } in
    let at : List Val × (List Val × (List Val × Unit {0})) = (vptr b o ∷ [], (shr_vals k, (slice_val s.ref_ptr (length s.now) ∷ [], tt))) in
    let y : (walk_of 𝓛 En hs c).Ghost = ((κs, qs, bounds, a, at), gh) in let Post : Val → SProp 𝓤 = (walk_of 𝓛 En hs c).post y in
    let others : Fml = fsep (flft κs.1.0 qs.1.0) (fsep (flft κs.1.1.0 qs.1.1.0) (fsep (flft κs.1.1.1.0 qs.1.1.1.0) ftrue)) in
    qed 𝓛 (((‵ (flft κs.0 qs.0) ⊛ ‵ others) ⊛ ‵ (owns (types_at En.signature.params κs) a at)) ∷ raw ((c κs a).requires gh) ∷ []) ∵ split ! $ split ! $ move ! (2 ∷ []) $ fsplit ! $ fsplit3 ! $ drop ! $
    keep ! (0 ∷ 1 ∷ 3 ∷ 2 ∷ 4 ∷ []) $
    enter ! 𝓣.C 𝓣.Λ fn (vptr b o ∷ vptr k.ref_ptr.0 k.ref_ptr.1 ∷ slice_val s.ref_ptr (length s.now) ∷ []) Post $
    alloc_all ! (λ l. pass_all ! refl ((tt, tt), ((tt, tt), ((tt, (tt, (record { fits = are.1.1.0.0.1.0 }, tt))), tt))) $
    move ! (0 ∷ 1 ∷ 2 ∷ []) $ opens ! tt Z {h = h} b o (λ vs.
    sets ! (of_opd ! (unit_lit !)) refl (tt, tt) $
    move ! (1 ∷ []) $ use1 𝓛 (‵ (Z.own_val h' vs)) (id⊢ 𝓤 _) $ move ! (1 ∷ 0 ∷ []) $ closes ! tt Z h' vs b o $
    returns ! (look_at ! 0 refl) $ free_all ! refl $ keep ! (0 ∷ 1 ∷ 2 ∷ 3 ∷ 4 ∷ []) $
    suffices ! _ (ends_at 𝓛 En hs c y vunit tt (h', (tt, (tt, tt))) (tt, (tt, (tt, tt)))) $ says ! refl $ move ! (2 ∷ 4 ∷ []) $ join ! $
    frame ! $ feq_i ! (List Val) (vptr b o ∷ []) (vptr b o ∷ []) refl $ fjoin3 ! $ fjoin ! $
    feq_i ! (List Val) (vunit ∷ []) (vunit ∷ []) refl $ move ! (1 ∷ 0 ∷ []) $ done !)))
