use Rattle.std.proofs.Common.{[], ◌∷◌, ◌++◌, ◌≡◌, ◌∙◌, List, Vec, Global, sym, ap, subst}
use Rattle.std.specs.List.{All, Contains}
use Rattle.std.proofs.lemmas.List.Elements.{All-push}
use Rattle.mcs_drive.specs.DrivenRuns.{Levels}
use Rattle.mcs_check.specs.SpacedInputs.{SpacedSetting}
use Rattle.mcs_check.proofs.spaced_search.SpacedSearch.levels_at.Goals as goal
use Rattle.mcs_check.proofs.spaced_search.SpacedSearch.levels_at.Goals.{in-Some+in_ok-copy+in_ok-push, in_default}

pub loop-index-preserved : goal.loop-index-preserved
loop-index-preserved c =
    let all = c.args.self.now.levels in
    let before = c.loop-index.found.items in
    let more = c.match-get.found.items in
    elim c.match-get.branch [
      | in-Some+in_ok-copy+in_ok-push w ↦
          let levels : Levels = w.in-Some.levels.now in
          let copied : Levels = w.in_ok-copy.field-0 in
          let there : Contains c.deref.result.now levels = (c.from.result, w.in-Some.ensures.lookup.3.0, sym (w.in-Some.ensures.lookup.3.1 levels)) in
          let inside : Contains all levels = subst (λ (xs : List Levels). Contains xs levels) (c.deref.ensures.value ∙ ap (λ (h : SpacedSetting). h.levels) c.self.view_is) there in
          let found : Contains all copied = subst (Contains all) (sym w.in_ok-copy.ensures) inside in
          let items : more ≡ before ++ copied ∷ [] = ap (λ (v : Vec Levels Global). v.items) w.found-is ∙ w.in_ok-push.ensures.items in
          subst (All (Contains all)) (sym items) (All-push (Contains all) before copied c.loop-index.invariant found)
      | in_default w ↦
          let items : more ≡ before = ap (λ (v : Vec Levels Global). v.items) w.found-is in
          subst (All (Contains all)) (sym items) c.loop-index.invariant
    ]
