use Rattle.std.proofs.Common.{◌≡◌, ◌++◌, ◌∷◌, [], arith, ap, sym, subst, ◌∙◌, get_or, length, map, take, append_assoc, ◌<◌}
use Rattle.std.specs.Option.{unwrap_or, option_map}
use Rattle.std.proofs.lemmas.List.{map-append, take_more}
use Rattle.std.proofs.lemmas.Option.{slice_get-get_or}
use Rattle.mcs_model.specs.declared.board.BoardParts.{BoardParts}
use Rattle.mcs_model.specs.declared.board.Line.{Line}
use Rattle.mcs_model.specs.declared.board.Line.TheVariants.{Rom}
use Rattle.mcs_model.specs.Levels.{level}
use Rattle.mcs_model.specs.QueryText.{lamp_mark}
use Rattle.mcs_answers.proofs.unchanged_rows.strip_marks.Goals as goal

pub loop-i-preserved : goal.loop-i-preserved
loop-i-preserved c =
    let bus = c.args.bench.now.bus in
    let lines = bus.board.lamps.items in
    let i = c.loop-i.i in
    let more = c.in-Some.more.now in
    let same : c.parts.result.now ≡ bus.board = c.parts.ensures.same ∙ c.board.ensures in
    let inside : i < length lines =
    subst (λ (b : BoardParts). i < length b.lamps.items) same (omega (arith, c.loop-i-test.true, c.len-lamps.ensures.value)) in
    let level_is : c.unwrap_or-level.result ≡ level bus (get_or lines i (Rom 0 0)) =
    c.unwrap_or-level.ensures
    ∙ ap (λ o. unwrap_or o 0) (c.lamp.ensures ∙ ap (option_map (level bus)) (slice_get-get_or lines i (Rom 0 0) inside)) in
    let f = λ (line : Line). lamp_mark (level bus line) in
    let one = get_or lines i (Rom 0 0) in
    c.loop-i.invariant
    ∙ ap (λ v. map f (take i lines) ++ v) (c.in-Some.ensures ∙ ap (λ m. m ∷ more) (c.lamp_mark.ensures ∙ ap lamp_mark level_is))
    ∙ sym (append_assoc (map f (take i lines)) (f one ∷ []) more)
    ∙ ap (λ v. v ++ more) (sym (ap (map f) (take_more lines i (Rom 0 0) inside) ∙ map-append f (take i lines) (one ∷ [])))
