-- Lemmas about the lines of `count` and `trace`, one line at a time.
use Rattle.std.proofs.Common.{◌≡◌, ℕ, suc, ◌+◌, ◌<◌, ◌≤◌, ◌==◌, Bool, true, false, cond, List, [], ◌∷◌, ◌++◌, codes, length, refl, sym, ap, ◌∙◌, subst, arith, nat_lt, length-append, if◌then◌else◌}
use Rattle.std.specs.Fmt.{decimal}
use Rattle.std.specs.List.{flat_map, range_with_len}
use Rattle.std.proofs.lemmas.Bool.Decides.{nat_tests}
use Rattle.std.proofs.lemmas.Grind.{flat_map-append}
use Rattle.std.proofs.lemmas.List.{append-nil}
use Rattle.mcs_model.specs.declared.stop.Stop.{Stop}
use Rattle.mcs_model.specs.declared.regs.Regs.{Regs}
use Rattle.mcs_model.specs.BenchState.{BenchState}
use Rattle.mcs_model.specs.Command.{machine_of, stops_of}
use Rattle.mcs_model.specs.QueryText.{address_text}
use Rattle.mcs_model.specs.TextLines.{as_line}
use Rattle.mcs_model.specs.Running.{Machine, after_cycles}
use Rattle.mcs_cpu4004.specs.IsInstructionRun.{IsInstructionRun}
use Rattle.mcs_model.proofs.ListLemmas.{range-one-more}
use Rattle.mcs_probe.specs.Forecast.{BegunInstruction, begins, cycle_at, is_branch, jumps_at, runs_at}
use Rattle.mcs_answers.specs.AnswerTexts.{stop_name}
use Rattle.mcs_probe.specs.declared.probe.Probe.{Probe}
use Rattle.mcs_probe.specs.Forecast.{instructions_begun_within}
use Rattle.mcs_probe.specs.Probes.{row}
use Rattle.mcs_trace.proofs.Steps.{instructions_begun-after_instruction, after_cycles-next, only_owed_differs-after_instruction}
use Rattle.mcs_trace.proofs.Tallies.{instruction_begun_at}
use Rattle.mcs_answers.proofs.UnchangedProbes.{row-ignores-owed}
use Rattle.mcs_answers.specs.ForecastTexts.{addresses, count_line, is_reported, trace_line}
use Rattle.mcs_answers.specs.TraceResult.{IsTraceOfRun, cycle_lines, line_if_reported}
use Rattle.mcs_answers.specs.declared.traces.TraceResult.{TraceResult}
use Rattle.mcs_bench.specs.Runs.{IsRunResult}

-- the text of lines, each with its line feed
abbrev pub lines_text : List (List ℕ) → List ℕ
lines_text lines = flat_map as_line lines

-- If more lines are appended, their text follows the text of the earlier lines.
pub text-of-appended-lines : (lines more all : List (List ℕ)) (text next : List ℕ) → all ≡ lines ++ more → text ≡ lines_text lines → next ≡ text ++ lines_text more → next ≡ lines_text all
text-of-appended-lines lines more all text next e so_far here =
    here ∙ ap (λ v. v ++ lines_text more) so_far ∙ sym (ap lines_text e ∙ flat_map-append as_line lines more)

pub length-of-appended-lines : (lines more all : List (List ℕ)) (n m : ℕ) → all ≡ lines ++ more → n ≡ length lines → m ≡ n + length more → m ≡ length all
length-of-appended-lines lines more all n m e so_far here = here ∙ ap (λ k. k + length more) so_far ∙ sym (ap length e ∙ length-append lines more)

-- The lines of the addresses up to `n` are the lines of the addresses below `n`, followed by the
-- lines of address `n`.
pub lines-with-next-address : (f : ℕ → List (List ℕ)) (n : ℕ) (piece : List (List ℕ)) → f n ≡ piece → flat_map f (addresses (n + 1)) ≡ flat_map f (addresses n) ++ piece
unfolding addresses
lines-with-next-address f n piece e =
    let one : suc n ≡ n + 1 = omega arith in
    ap (flat_map f) (ap (range_with_len 0) (sym one) ∙ range-one-more 0 n) ∙ flat_map-append f (range_with_len 0 n) ((0 + n) ∷ [])
    ∙ ap (λ v. flat_map f (range_with_len 0 n) ++ v) (append-nil (f (0 + n)) ∙ (let same : 0 + n ≡ n = omega arith in ap f same) ∙ e)

pub no-lines-without-addresses : (f : ℕ → List (List ℕ)) → flat_map f (addresses 0) ≡ []
unfolding addresses
no-lines-without-addresses f = refl

-- the line of an address in the answer to `count`
abbrev pub address_line : Machine → ℕ → ℕ → ℕ → List ℕ
address_line s at runs jumps =
    address_text at ++ codes " " ++ decimal runs
    ++ (if is_branch s at then codes " " ++ decimal jumps else [])

pub count-line-if-begun : (begun : List BegunInstruction) (s : Machine) (at runs jumps : ℕ) → runs ≡ runs_at begun at → jumps ≡ jumps_at begun at → 0 < runs → count_line begun s at ≡ address_line s at runs jumps ∷ []
count-line-if-begun begun s at runs jumps e f some =
    let t : nat_lt 0 (runs_at begun at) ≡ true = grind (arith, nat_tests) in
    rw (e, f, t) refl

pub no-count-line-if-not-begun : (begun : List BegunInstruction) (s : Machine) (at runs : ℕ) → runs ≡ runs_at begun at → runs ≡ 0 → count_line begun s at ≡ []
no-count-line-if-not-begun begun s at runs e none =
    let t : nat_lt 0 (runs_at begun at) ≡ false = grind (arith, nat_tests) in
    rw t refl

-- the start of the first line of an answer, from its numbers
abbrev pub head_from_numbers : List ℕ → ℕ → Stop → ℕ → List ℕ
head_from_numbers word cycles stop lines =
    word ++ codes " ran " ++ decimal cycles ++ codes " " ++ stop_name stop ++ codes " lines " ++ decimal lines

pub equal-heads-of-equal-numbers : (word : List ℕ) (c d : ℕ) (s t : Stop) (n m : ℕ) → c ≡ d → s ≡ t → n ≡ m → head_from_numbers word c s n ≡ head_from_numbers word d t m
equal-heads-of-equal-numbers word c d s t n m e f g = ap (λ x. head_from_numbers word x s n) e ∙ ap (λ x. head_from_numbers word d x n) f ∙ ap (head_from_numbers word d t) g

-- ---- `trace`

-- the trace lines of the first `k` cycles
abbrev pub lines_within : List Probe → ℕ → Machine → List (List ℕ)
lines_within probes k s = flat_map (trace_line probes) (instructions_begun_within k s)

trace-lines-if-instruction-begins : (probes : List Probe) (x : BegunInstruction) (b : Bool) → flat_map (trace_line probes) (cond b (x ∷ []) []) ≡ (if b then trace_line probes x else [])
trace-lines-if-instruction-begins probes x true = append-nil (trace_line probes x)
trace-lines-if-instruction-begins probes x false = refl

-- The trace lines after one more instruction are the earlier lines, followed by the line of that
-- instruction, if it has one.
lines-within-next-instruction : (probes : List Probe) (k m : ℕ) (s : Machine) → instructions_begun_within m s ≡ instructions_begun_within k s ++ instruction_begun_at s k → lines_within probes m s ≡ lines_within probes k s ++ (if begins (cycle_at s k) then trace_line probes (cycle_at s k) else [])
lines-within-next-instruction probes k m s e =
    ap (flat_map (trace_line probes)) e
    ∙ flat_map-append (trace_line probes) (instructions_begun_within k s) (instruction_begun_at s k)
    ∙ ap (λ v. lines_within probes k s ++ v) (trace-lines-if-instruction-begins probes (cycle_at s k) (begins (cycle_at s k)))

-- Cycle `k` of a run has the trace lines that `cycle_lines` computes from the registers before the
-- cycle and from the rows before and after it.
pub cycle-lines-are-trace-line : (probes : List Probe) (k : ℕ) (s : Machine) (owed pc : ℕ) (before after : List ℕ) → owed ≡ (cycle_at s k).before.0.owed → pc ≡ (cycle_at s k).before.0.pc → before ≡ row probes (cycle_at s k).before → after ≡ row probes (cycle_at s k).after → cycle_lines probes owed k pc before after ≡ (if begins (cycle_at s k) then trace_line probes (cycle_at s k) else [])
cycle-lines-are-trace-line probes k s owed pc before after e f g h =
    ap (λ o. cycle_lines probes o k pc before after) e
    ∙ ap (λ p. cycle_lines probes (cycle_at s k).before.0.owed k p before after) f
    ∙ ap (λ r. cycle_lines probes (cycle_at s k).before.0.owed k (cycle_at s k).before.0.pc r after) g
    ∙ ap (λ r. cycle_lines probes (cycle_at s k).before.0.owed k (cycle_at s k).before.0.pc (row probes (cycle_at s k).before) r) h

-- Holds if `before`, `text` and `lines` are the row, the trace text and the number of trace lines
-- after `k` cycles.
pub record IsTraceSoFar (probes : List Probe) (k : ℕ) (s t : Machine) (before text : List ℕ) (lines : ℕ) : Type 0 where
  pub row_now : before ≡ row probes t
  pub so_far : text ≡ lines_text (lines_within probes k s)
  pub count : lines ≡ length (lines_within probes k s)
  pub within : lines ≤ k

pub is-trace-of-run : (probes : List Probe) (n : ℕ) (b : BenchState) (t : Machine) (k : ℕ) (x : TraceResult) (text : List ℕ) → IsRunResult (stops_of b) n (machine_of b) t k x.stop → x.cycles ≡ k → x.lines ≡ length (lines_within probes k (machine_of b)) → text ≡ lines_text (lines_within probes k (machine_of b)) → IsTraceOfRun probes n b x text
is-trace-of-run probes n b t k x text ran e lines report = record {
  cycles = e ∙ ran.cycles;
  stop = ran.stop;
  lines = subst (λ j. x.lines ≡ length (lines_within probes j (machine_of b))) ran.cycles lines;
  lines_text = subst (λ j. text ≡ lines_text (lines_within probes j (machine_of b))) ran.cycles report;
}

pub no-lines-within-zero-cycles : (probes : List Probe) (s : Machine) → lines_within probes 0 s ≡ []
unfolding instructions_begun_within
no-lines-within-zero-cycles probes s = refl

at-most-one-reported-line : (report : Bool) (cycles at : ℕ) (after : List ℕ) → length (line_if_reported report cycles at after) ≤ 1
at-most-one-reported-line true cycles at after = omega arith
at-most-one-reported-line false cycles at after = omega arith

at-most-one-line-in-either-case : (b : Bool) (lines : List (List ℕ)) → length lines ≤ 1 → length (if b then lines else []) ≤ 1
at-most-one-line-in-either-case true lines l = l
at-most-one-line-in-either-case false lines l = omega arith

-- `IsTraceSoFar` still holds after one more instruction.
pub trace-so-far-next : (probes : List Probe) (left k d : ℕ) (s t u : Machine) (regs : Regs) (before text later longer : List ℕ) (lines added : ℕ) → t ≡ after_cycles k s → IsInstructionRun left t u d → 0 < d → regs ≡ t.0 → IsTraceSoFar probes k s t before text lines → later ≡ row probes u → added ≡ length (cycle_lines probes regs.owed k regs.pc before (row probes u)) → longer ≡ text ++ lines_text (cycle_lines probes regs.owed k regs.pc before (row probes u)) → IsTraceSoFar probes (k + d) s u later longer (lines + added)
trace-so-far-next probes left k d s t u regs before text later longer lines added at ran some e report now count new_text =
    let more : List (List ℕ) = cycle_lines probes regs.owed k regs.pc before (row probes u) in
    let after : row probes u ≡ row probes (cycle_at s k).after = ap (row probes) (only_owed_differs-after_instruction left d t u ran some) ∙ row-ignores-owed probes (after_cycles 1 t) u.0.owed ∙ ap (row probes) (after_cycles-next k s t at) in
    let same : more ≡ (if begins (cycle_at s k) then trace_line probes (cycle_at s k) else []) = cycle-lines-are-trace-line probes k s regs.owed regs.pc before (row probes u)
    (ap (λ (r : Regs). r.owed) e ∙ ap (λ (m : Machine). m.0.owed) at)
    (ap (λ (r : Regs). r.pc) e ∙ ap (λ (m : Machine). m.0.pc) at)
    (report.row_now ∙ ap (row probes) at)
    after in
    let all : lines_within probes (k + d) s ≡ lines_within probes k s ++ more = lines-within-next-instruction probes k (k + d) s (instructions_begun-after_instruction left k d s t u at ran some) ∙ ap (λ v. lines_within probes k s ++ v) (sym same) in
    let at_most_one : length more ≤ 1 = at-most-one-line-in-either-case (regs.owed == 0) _ (at-most-one-reported-line (is_reported probes before (row probes u)) k regs.pc (row probes u)) in
    let within_so_far = report.within in
    record {
      row_now = now;
      so_far = text-of-appended-lines (lines_within probes k s) more _ text longer all report.so_far new_text;
      count = length-of-appended-lines (lines_within probes k s) more _ lines (lines + added) all report.count (ap (λ m. lines + m) count);
      within = omega arith;
    }
