use Rattle.std.proofs.Common.{◌≡◌, ◌∙◌, ◌++◌, ◌<◌, ◌∷◌, [], List, ℕ, codes, sym, ap, arith, length, slice_index, Vec, Global}
use Rattle.std.specs.List.{flat_map}
use Rattle.std.proofs.lemmas.List.{append-nil}
use Rattle.mcs_model.specs.Command.{machine_of, stops_of}
use Rattle.mcs_model.specs.TextLines.{as_line}
use Rattle.mcs_model.specs.Running.{run_length, run_stop_reason}
use Rattle.mcs_probe.specs.Forecast.{instructions_begun_in}
use Rattle.mcs_answers.specs.ForecastTexts.{addresses, count_line, count_lines}
use Rattle.mcs_answers.proofs.ForecastLines.{lines-with-next-address, no-lines-without-addresses, address_line, equal-heads-of-equal-numbers, head_from_numbers, length-of-appended-lines, no-count-line-if-not-begun, count-line-if-begun, lines_text, text-of-appended-lines}
use Rattle.mcs_answers.proofs.counts.put_count.Goals as goal
use Rattle.mcs_answers.proofs.counts.put_count.Goals.{then-runs-gt0+in_ok-extend_from_slice, else-runs-gt0}

pub loop-i-init : goal.loop-i-init
loop-i-init c =
    let b = c.args.bench.now in
    let s = machine_of b in
    let none = no-lines-without-addresses (count_line (instructions_begun_in (stops_of b) c.args.n s) s) in
    record {
      report = c.new-text.ensures.items ∙ sym (ap lines_text none);
      count = sym (ap length none);
      within = omega arith;
    }

pub loop-i-preserved : goal.loop-i-preserved
loop-i-preserved c =
    let b = c.args.bench.now in
    let s = machine_of b in
    let begun = instructions_begun_in (stops_of b) c.args.n s in
    let i : ℕ = c.loop-i.i in
    let f : ℕ → List (List ℕ) = count_line begun s in
    let below : i < 4096 = omega arith in
    let at : c.plus-at.result ≡ i = omega arith in
    let runs = c.count_at-runs.ensures ∙ ap (λ (k : ℕ). slice_index c.in_ok-counts.counts.runs.items k) at ∙ c.in_ok-counts.ensures.runs.each i below in
    let jumps = c.count_at-jumps.ensures ∙ ap (λ (k : ℕ). slice_index c.in_ok-counts.counts.jumps.items k) at ∙ c.in_ok-counts.ensures.jumps.each i below in
    elim c.if-runs-gt0.branch [
      | then-runs-gt0+in_ok-extend_from_slice w ↦ (
          let line : List ℕ = address_line s c.plus-at.result c.count_at-runs.result c.count_at-jumps.result in
          let report : f i ≡ line ∷ [] = count-line-if-begun begun s i c.count_at-runs.result c.count_at-jumps.result runs jumps w.if-runs-gt0.true ∙ ap (λ (a : ℕ). address_line s a c.count_at-runs.result c.count_at-jumps.result ∷ []) (sym at) in
          let more = lines-with-next-address f i (line ∷ []) report in
          let text : c.if-runs-gt0.text.items ≡ c.loop-i.text.items ++ lines_text (line ∷ []) =
          ap (λ (v : Vec ℕ Global). v.items) w.text-is ∙ w.in_ok-extend_from_slice.ensures.items ∙ ap (λ v. c.loop-i.text.items ++ v) (w.as_slice.ensures.value ∙ w.put_count_line.ensures ∙ sym (append-nil (as_line line))) in
          record {
            report = text-of-appended-lines (flat_map f (addresses i)) (line ∷ []) _ c.loop-i.text.items _ more c.loop-i.invariant.report text;
            count = length-of-appended-lines (flat_map f (addresses i)) (line ∷ []) _ c.loop-i.lines _ more c.loop-i.invariant.count w.lines-is;
            within = (let is = w.lines-is in let within = c.loop-i.invariant.within in omega arith);
          })
      | else-runs-gt0 w ↦ (
          let none : f i ≡ [] = no-count-line-if-not-begun begun s i c.count_at-runs.result runs (let no = w.if-runs-gt0.false in omega arith) in
          let more = lines-with-next-address f i [] none in
          record {
            report = text-of-appended-lines (flat_map f (addresses i)) [] _ c.loop-i.text.items _ more c.loop-i.invariant.report (ap (λ (v : Vec ℕ Global). v.items) w.text-is ∙ sym (append-nil c.loop-i.text.items));
            count = length-of-appended-lines (flat_map f (addresses i)) [] _ c.loop-i.lines _ more c.loop-i.invariant.count (let is = w.lines-is in omega arith);
            within = (let is = w.lines-is in let within = c.loop-i.invariant.within in omega arith);
          })
    ]

pub returns : goal.returns
returns c =
    let b = c.args.bench.now in
    let s = machine_of b in
    let n : ℕ = c.args.n in
    let f : ℕ → List (List ℕ) = count_line (instructions_begun_in (stops_of b) n s) s in
    let all : c.loop-i.i ≡ 4096 = omega arith in
    let report : c.loop-i.text.items ≡ lines_text (count_lines b n) = c.loop-i.invariant.report ∙ ap (λ (k : ℕ). lines_text (flat_map f (addresses k))) all in
    let lines : c.loop-i.lines ≡ length (count_lines b n) = c.loop-i.invariant.count ∙ ap (λ (k : ℕ). length (flat_map f (addresses k))) all in
    let head = c.put.ensures.text ∙ ap as_line (c.put_head.ensures.text ∙ equal-heads-of-equal-numbers (codes "count") _ _ _ _ _ _ c.in_ok-counts.ensures.cycles c.in_ok-counts.ensures.stop lines) in
    ap (λ v. v ++ c.loop-i.text.items) head ∙ ap (λ v. as_line (head_from_numbers (codes "count") (run_length (stops_of b) n s) (run_stop_reason (stops_of b) n s) (length (count_lines b n))) ++ v) report
