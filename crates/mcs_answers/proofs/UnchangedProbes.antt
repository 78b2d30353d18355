-- Lemmas about what an instruction leaves unchanged. Only WMP and WRR change the levels of lines.
-- Only WRM changes RAM nibbles, and only WR0 to WR3 change status characters. No instruction
-- changes the ROM.
use Rattle.std.proofs.Common.{◌≡◌, ◌≢◌, ℕ, ◌/◌, Bool, true, false, cond, List, [], ◌∷◌, map, Option, Some, None, not, ◌⊎◌, inl, inr, refl, sym, ap, ◌∙◌, eqb, nat_lt, slice_index, if◌then◌else◌}
use Rattle.mcs_nibble.specs.declared.lines.LineMask.{LineMask}
use Rattle.mcs_model.specs.declared.regs.Regs.{Regs}
use Rattle.mcs_model.specs.declared.board.Line.{Line}
use Rattle.mcs_model.specs.declared.board.Line.TheVariants.{Rom, Ram, Chain}
use Rattle.mcs_model.specs.declared.op.Op.{Op}
use Rattle.mcs_model.specs.declared.op.Op.TheVariants.{Nop, Jcn, Fim, Src, Fin, Jin, Jun, Jms, Inc, Isz, Add, Sub, Ld, Xch, Bbl, Ldm, Wrm, Wmp, Wrr, Wr0, Wr1, Wr2, Wr3, Sbm, Rdm, Rdr, Adm, Rd0, Rd1, Rd2, Rd3, Clb, Clc, Iac, Cmc, Cma, Ral, Rar, Tcc, Dac, Tcs, Stc, Daa, Kbp, Dcl}
use Rattle.mcs_model.specs.Boards.{is_on_board, rom_masks}
use Rattle.mcs_model.specs.Bus.{BusState, after_src, after_ram, after_status, chips_of, has_chip, ram_index, src_of, status_index, with_ram, with_status}
use Rattle.mcs_model.specs.Effect.{after_fetch, bus_after, cycle_of, effect, instruction_at, registers_after}
use Rattle.mcs_model.specs.Levels.{after_ram_port, after_rom_port, after_chain_clocks, is_pulled, latch_of, level}
use Rattle.mcs_model.specs.Registers.{pair_of}
use Rattle.mcs_model.specs.QueryText.{address_text, digit_text, two_hex_digits, lamp_mark, comma_list, or_dash}
use Rattle.mcs_model.specs.Running.{Machine, StopConditions, after_cycles}
use Rattle.mcs_bench.specs.declared.running.InstructionResult.{InstructionResult}
use Rattle.mcs_bench.specs.Runs.{IsInstructionResult}
use Rattle.mcs_probe.specs.declared.probe.Probe.{Probe}
use Rattle.mcs_probe.specs.declared.probe.Probe.TheVariants as probe
use Rattle.mcs_probe.specs.Probes.{level_if_on_board, levels_of_four_lines, probe_text, row}
use Rattle.mcs_trace.proofs.Steps.{only_owed_differs-after_instruction, with_owed}
use Rattle.mcs_answers.specs.declared.traces.ProbeKinds.{ProbeKinds}
use Rattle.mcs_answers.specs.UnchangedProbes.{AlwaysStaysSame, StaysSame, RowAlwaysStaysSame, RowStaysSame, IncludesProbeKind, WritesPort, WritesStatus, touches}

-- A property of the bus after an instruction holds if it holds for each way in which an instruction
-- can change the bus.
holds-after-instruction : (op : Op) (s : Regs) (m : BusState) (P : Op → BusState → Type 0)
    → ((o : Op) → P o m)
    → ((k : ℕ) → P (Src k) (after_src m s.dcl (pair_of s k)))
    → P Wrm (after_ram m s.dcl s.acc)
    → P Wmp (after_ram_port m s.dcl s.acc)
    → P Wrr (after_rom_port m s.acc)
    → (P Wr0 (after_status m s.dcl 0 s.acc) × P Wr1 (after_status m s.dcl 1 s.acc) × P Wr2 (after_status m s.dcl 2 s.acc) × P Wr3 (after_status m s.dcl 3 s.acc))
    → P op (bus_after op s m)
holds-after-instruction Nop s m P none src ram ram_port rom_port status = none _
holds-after-instruction (Jcn a b) s m P none src ram ram_port rom_port status = none _
holds-after-instruction (Fim a b) s m P none src ram ram_port rom_port status = none _
holds-after-instruction (Src a) s m P none src ram ram_port rom_port status = src a
holds-after-instruction (Fin a) s m P none src ram ram_port rom_port status = none _
holds-after-instruction (Jin a) s m P none src ram ram_port rom_port status = none _
holds-after-instruction (Jun a b) s m P none src ram ram_port rom_port status = none _
holds-after-instruction (Jms a b) s m P none src ram ram_port rom_port status = none _
holds-after-instruction (Inc a) s m P none src ram ram_port rom_port status = none _
holds-after-instruction (Isz a b) s m P none src ram ram_port rom_port status = none _
holds-after-instruction (Add a) s m P none src ram ram_port rom_port status = none _
holds-after-instruction (Sub a) s m P none src ram ram_port rom_port status = none _
holds-after-instruction (Ld a) s m P none src ram ram_port rom_port status = none _
holds-after-instruction (Xch a) s m P none src ram ram_port rom_port status = none _
holds-after-instruction (Bbl a) s m P none src ram ram_port rom_port status = none _
holds-after-instruction (Ldm a) s m P none src ram ram_port rom_port status = none _
holds-after-instruction Wrm s m P none src ram ram_port rom_port status = ram
holds-after-instruction Wmp s m P none src ram ram_port rom_port status = ram_port
holds-after-instruction Wrr s m P none src ram ram_port rom_port status = rom_port
holds-after-instruction Wr0 s m P none src ram ram_port rom_port status = status.0
holds-after-instruction Wr1 s m P none src ram ram_port rom_port status = status.1
holds-after-instruction Wr2 s m P none src ram ram_port rom_port status = status.2
holds-after-instruction Wr3 s m P none src ram ram_port rom_port status = status.3
holds-after-instruction Sbm s m P none src ram ram_port rom_port status = none _
holds-after-instruction Rdm s m P none src ram ram_port rom_port status = none _
holds-after-instruction Rdr s m P none src ram ram_port rom_port status = none _
holds-after-instruction Adm s m P none src ram ram_port rom_port status = none _
holds-after-instruction Rd0 s m P none src ram ram_port rom_port status = none _
holds-after-instruction Rd1 s m P none src ram ram_port rom_port status = none _
holds-after-instruction Rd2 s m P none src ram ram_port rom_port status = none _
holds-after-instruction Rd3 s m P none src ram ram_port rom_port status = none _
holds-after-instruction Clb s m P none src ram ram_port rom_port status = none _
holds-after-instruction Clc s m P none src ram ram_port rom_port status = none _
holds-after-instruction Iac s m P none src ram ram_port rom_port status = none _
holds-after-instruction Cmc s m P none src ram ram_port rom_port status = none _
holds-after-instruction Cma s m P none src ram ram_port rom_port status = none _
holds-after-instruction Ral s m P none src ram ram_port rom_port status = none _
holds-after-instruction Rar s m P none src ram ram_port rom_port status = none _
holds-after-instruction Tcc s m P none src ram ram_port rom_port status = none _
holds-after-instruction Dac s m P none src ram ram_port rom_port status = none _
holds-after-instruction Tcs s m P none src ram ram_port rom_port status = none _
holds-after-instruction Stc s m P none src ram ram_port rom_port status = none _
holds-after-instruction Daa s m P none src ram ram_port rom_port status = none _
holds-after-instruction Kbp s m P none src ram ram_port rom_port status = none _
holds-after-instruction Dcl s m P none src ram ram_port rom_port status = none _

holds-for-either-bus : (b : Bool) (x y : BusState) (P : BusState → Type 0) → P x → P y → P (cond b x y)
holds-for-either-bus true x y P e f = e
holds-for-either-bus false x y P e f = f

holds-with-or-without-mask : (o : Option (List LineMask)) (m : BusState) (f : List LineMask → BusState) (P : BusState → Type 0) → ((mask : List LineMask) → P (f mask)) → P m → P (elim o as (λ _. BusState) [ Some mask ↦ f mask | None ↦ m ])
holds-with-or-without-mask None m f P h k = k
holds-with-or-without-mask (Some mask) m f P h k = h mask

holds-after-src : (m : BusState) (bank byte : ℕ) (P : BusState → Type 0) → ((src : ℕ) (srcs : List ℕ) → P (record m { rom_src = src; ram_src = srcs })) → P (after_src m bank byte)
unfolding after_src
holds-after-src m bank byte P h = holds-for-either-bus (nat_lt 0 (chips_of m bank)) _ _ P (h _ _) (h _ _)

holds-after-ram-write : (m : BusState) (bank n : ℕ) (P : BusState → Type 0) → ((ram : List ℕ) → P (record m { ram = ram })) → P (after_ram m bank n)
unfolding after_ram with_ram
holds-after-ram-write m bank n P h = holds-for-either-bus (has_chip m bank (src_of m bank)) _ _ P (h _) (h _)

holds-after-status-write : (m : BusState) (bank k n : ℕ) (P : BusState → Type 0) → ((status : List ℕ) → P (record m { status = status })) → P (after_status m bank k n)
unfolding after_status with_status
holds-after-status-write m bank k n P h = holds-for-either-bus (nat_lt (src_of m bank / 16 / 4) (chips_of m bank)) _ _ P (h _) (h _)

holds-after-ram-port-write : (m : BusState) (bank n : ℕ) (P : BusState → Type 0) → ((ports : List ℕ) (chains : List (List ℕ)) → P (record m { ram_ports = ports; chains = chains })) → P (after_ram_port m bank n)
unfolding after_ram_port after_chain_clocks
holds-after-ram-port-write m bank n P h = holds-for-either-bus (has_chip m bank (src_of m bank)) _ _ P (h _ _) (h _ _)

holds-after-rom-port-write : (m : BusState) (n : ℕ) (P : BusState → Type 0) → ((ports : List ℕ) (chains : List (List ℕ)) → P (record m { rom_ports = ports; chains = chains })) → P (after_rom_port m n)
unfolding after_rom_port after_chain_clocks
holds-after-rom-port-write m n P h = holds-with-or-without-mask (rom_masks m.board (m.rom_src / 16)) m _ P (λ mask. h _ _) (h _ _)

-- No instruction changes the ROM.
pub keeps-rom : (op : Op) (s : Regs) (m : BusState) → (bus_after op s m).rom ≡ m.rom
keeps-rom op s m =
    let P : Op → BusState → Type 0 = λ o n. n.rom ≡ m.rom in
    let Q : BusState → Type 0 = λ n. n.rom ≡ m.rom in
    holds-after-instruction op s m P (λ o. refl) (λ k. holds-after-src m s.dcl _ Q (λ a b. refl)) (holds-after-ram-write m s.dcl s.acc Q (λ a. refl)) (holds-after-ram-port-write m s.dcl s.acc Q (λ a b. refl)) (holds-after-rom-port-write m s.acc Q (λ a b. refl))
    (holds-after-status-write m s.dcl 0 s.acc Q (λ a. refl), holds-after-status-write m s.dcl 1 s.acc Q (λ a. refl), holds-after-status-write m s.dcl 2 s.acc Q (λ a. refl), holds-after-status-write m s.dcl 3 s.acc Q (λ a. refl))

-- Only WRM changes RAM nibbles.
pub keeps-ram : (op : Op) (s : Regs) (m : BusState) → op ≢ Wrm → (bus_after op s m).ram ≡ m.ram
keeps-ram op s m off =
    let P : Op → BusState → Type 0 = λ o n. o ≢ Wrm → n.ram ≡ m.ram in
    let Q : BusState → Type 0 = λ n. n.ram ≡ m.ram in
    holds-after-instruction op s m P (λ o h. refl) (λ k h. holds-after-src m s.dcl _ Q (λ a b. refl)) (λ h. absurd (h refl)) (λ h. holds-after-ram-port-write m s.dcl s.acc Q (λ a b. refl)) (λ h. holds-after-rom-port-write m s.acc Q (λ a b. refl))
    ((λ h. holds-after-status-write m s.dcl 0 s.acc Q (λ a. refl)), (λ h. holds-after-status-write m s.dcl 1 s.acc Q (λ a. refl)), (λ h. holds-after-status-write m s.dcl 2 s.acc Q (λ a. refl)), (λ h. holds-after-status-write m s.dcl 3 s.acc Q (λ a. refl))) off

-- Only WR0 to WR3 change status characters.
pub keeps-status : (op : Op) (s : Regs) (m : BusState) → (WritesStatus op → ⊥) → (bus_after op s m).status ≡ m.status
keeps-status op s m off =
    let P : Op → BusState → Type 0 = λ o n. (WritesStatus o → ⊥) → n.status ≡ m.status in
    let Q : BusState → Type 0 = λ n. n.status ≡ m.status in
    holds-after-instruction op s m P (λ o h. refl) (λ k h. holds-after-src m s.dcl _ Q (λ a b. refl)) (λ h. holds-after-ram-write m s.dcl s.acc Q (λ a. refl)) (λ h. holds-after-ram-port-write m s.dcl s.acc Q (λ a b. refl)) (λ h. holds-after-rom-port-write m s.acc Q (λ a b. refl))
    ((λ h. absurd (h (inl refl))), (λ h. absurd (h (inr (inl refl)))), (λ h. absurd (h (inr (inr (inl refl))))), (λ h. absurd (h (inr (inr (inr refl)))))) off

-- If a property of the bus holds for any RAM nibbles, status characters and SRC bytes, it holds
-- after an instruction that writes no port.
holds-if-no-port-written : (op : Op) (s : Regs) (m : BusState) → (WritesPort op → ⊥) → (Q : BusState → Type 0) → ((ram status srcs : List ℕ) (src : ℕ) → Q (record m { ram = ram; status = status; rom_src = src; ram_src = srcs })) → Q (bus_after op s m)
holds-if-no-port-written op s m off Q h =
    let P : Op → BusState → Type 0 = λ o n. (WritesPort o → ⊥) → Q n in
    holds-after-instruction op s m P (λ o h0. h _ _ _ _) (λ k h0. holds-after-src m s.dcl _ Q (λ a b. h _ _ _ _)) (λ h0. holds-after-ram-write m s.dcl s.acc Q (λ a. h _ _ _ _)) (λ h0. absurd (h0 (inl refl))) (λ h0. absurd (h0 (inr refl)))
    ((λ h0. holds-after-status-write m s.dcl 0 s.acc Q (λ a. h _ _ _ _)), (λ h0. holds-after-status-write m s.dcl 1 s.acc Q (λ a. h _ _ _ _)), (λ h0. holds-after-status-write m s.dcl 2 s.acc Q (λ a. h _ _ _ _)), (λ h0. holds-after-status-write m s.dcl 3 s.acc Q (λ a. h _ _ _ _))) off

level-unchanged-by-memory-and-src : (m : BusState) (ram status srcs : List ℕ) (src : ℕ) (line : Line) → level (record m { ram = ram; status = status; rom_src = src; ram_src = srcs }) line ≡ level m line
unfolding level latch_of is_pulled
level-unchanged-by-memory-and-src m ram status srcs src (Rom c k) = refl
level-unchanged-by-memory-and-src m ram status srcs src (Ram b c k) = refl
level-unchanged-by-memory-and-src m ram status srcs src (Chain n i) = refl

map-of-equal-functions : {A : Type 0} (f g : A → ℕ) (xs : List A) → ((x : A) → f x ≡ g x) → map f xs ≡ map g xs
map-of-equal-functions f g [] h = refl
map-of-equal-functions f g (x ∷ xs) h = rw (h x, map-of-equal-functions f g xs h) refl

-- Only WMP and WRR change the levels of lines and lamps.
pub keeps-level : (op : Op) (s : Regs) (m : BusState) (line : Line) → (WritesPort op → ⊥) → level_if_on_board (bus_after op s m) line ≡ level_if_on_board m line
keeps-level op s m line off =
    holds-if-no-port-written op s m off (λ n. level_if_on_board n line ≡ level_if_on_board m line)
    (λ ram status srcs src. ap (λ (v : ℕ). if is_on_board m.board line then v else 0) (level-unchanged-by-memory-and-src m ram status srcs src line))

pub keeps-lamps : (op : Op) (s after : Regs) (m : BusState) → (WritesPort op → ⊥) → probe_text (after, bus_after op s m) probe.Lamps ≡ probe_text (s, m) probe.Lamps
keeps-lamps op s after m off =
    holds-if-no-port-written op s m off (λ n. probe_text (after, n) probe.Lamps ≡ probe_text (s, m) probe.Lamps)
    (λ ram status srcs src. ap or_dash (map-of-equal-functions (λ (line : Line). lamp_mark (level (record m { ram = ram; status = status; rom_src = src; ram_src = srcs }) line)) (λ line. lamp_mark (level m line)) m.board.lamps.items (λ line. ap lamp_mark (level-unchanged-by-memory-and-src m ram status srcs src line))))

keeps-src : (op : Op) (s : Regs) (m : BusState) → ((k : ℕ) → op ≢ Src k) → (bus_after op s m).rom_src ≡ m.rom_src
keeps-src op s m off =
    let P : Op → BusState → Type 0 = λ o n. ((k : ℕ) → o ≢ Src k) → n.rom_src ≡ m.rom_src in
    let Q : BusState → Type 0 = λ n. n.rom_src ≡ m.rom_src in
    holds-after-instruction op s m P (λ o h. refl) (λ k h. absurd (h k refl)) (λ h. holds-after-ram-write m s.dcl s.acc Q (λ a. refl)) (λ h. holds-after-ram-port-write m s.dcl s.acc Q (λ a b. refl)) (λ h. holds-after-rom-port-write m s.acc Q (λ a b. refl))
    ((λ h. holds-after-status-write m s.dcl 0 s.acc Q (λ a. refl)), (λ h. holds-after-status-write m s.dcl 1 s.acc Q (λ a. refl)), (λ h. holds-after-status-write m s.dcl 2 s.acc Q (λ a. refl)), (λ h. holds-after-status-write m s.dcl 3 s.acc Q (λ a. refl))) off

levels-equal-if-each-level-is : (m n : BusState) (f : ℕ → Line) → ((line : Line) → level_if_on_board n line ≡ level_if_on_board m line) → levels_of_four_lines n f ≡ levels_of_four_lines m f
levels-equal-if-each-level-is m n f h = rw (h (f 0), h (f 1), h (f 2), h (f 3)) refl

-- ---- rows

probe-text-ignores-owed : (p : Probe) (t : Machine) (n : ℕ) → probe_text (with_owed t n) p ≡ probe_text t p
probe-text-ignores-owed probe.Acc t n = refl
probe-text-ignores-owed probe.Cy t n = refl
probe-text-ignores-owed probe.Pc t n = refl
probe-text-ignores-owed (probe.Register k) t n = refl
probe-text-ignores-owed probe.Dcl t n = refl
probe-text-ignores-owed (probe.Rom at) t n = refl
probe-text-ignores-owed (probe.Ram bank src) t n = refl
probe-text-ignores-owed (probe.Status bank high k) t n = refl
probe-text-ignores-owed (probe.Level line) t n = refl
probe-text-ignores-owed (probe.RomPort chip) t n = refl
probe-text-ignores-owed (probe.RamPort bank chip) t n = refl
probe-text-ignores-owed (probe.Chain k) t n = refl
probe-text-ignores-owed probe.Src t n = refl
probe-text-ignores-owed probe.Lamps t n = refl
probe-text-ignores-owed probe.ReturnAddresses t n = refl

-- No probe shows the pending second cycle (`owed`).
pub row-ignores-owed : (probes : List Probe) (t : Machine) (n : ℕ) → row probes (with_owed t n) ≡ row probes t
row-ignores-owed [] t n = refl
row-ignores-owed (p ∷ ps) t n = rw (probe-text-ignores-owed p t n, row-ignores-owed ps t n) refl

not-owed-if-instruction-begun : (owed : Bool) (op : Op) (at begun : Option Op) → begun ≡ Some op → begun ≡ (if owed then None else at) → (owed ≡ false) × (at ≡ Some op)
not-owed-if-instruction-begun true op at begun e f = absurd (cc)
not-owed-if-instruction-begun false op at begun e f = (refl, sym f ∙ e)

one_cycle_is_effect : (op : Op) (t : Machine) → eqb t.0.owed 1 ≡ false → instruction_at t.0 t.1 ≡ Some op → after_cycles 1 t ≡ effect op t.0 t.1
unfolding cycle_of
one_cycle_is_effect op t off at = rw (off, at) refl

-- After an instruction of a run, the bus is the bus that `bus_after` returns.
pub run-leaves-bus-after : (stops : StopConditions) (left : ℕ) (t u : Machine) (w : InstructionResult) (op : Op) → IsInstructionResult stops left t u w → w.op ≡ Some op → u ≡ (u.0, bus_after op t.0 t.1)
run-leaves-bus-after stops left t u w op h e =
    let begun = not-owed-if-instruction-begun (eqb t.0.owed 1) op (instruction_at t.0 t.1) w.op e h.op in
    let rest = only_owed_differs-after_instruction left w.cycles t u h.ran h.some in
    ap (λ (m : BusState). (u.0, m)) (ap (λ (v : Machine). v.1) rest ∙ ap (λ (v : Machine). v.1) (one_cycle_is_effect op t begun.0 begun.1))

-- If `RowStaysSame` holds for an instruction, the row is the same before and after it.
row-stays-same-by-values : (stops : StopConditions) (left : ℕ) (t u : Machine) (w : InstructionResult) (before after : Regs) (probes : List Probe) (begun : Option Op) → IsInstructionResult stops left t u w → before ≡ t.0 → after ≡ u.0 → w.op ≡ begun → RowStaysSame begun before after probes → row probes t ≡ row probes u
row-stays-same-by-values stops left t u w before after probes None h e f is same = absurd same
row-stays-same-by-values stops left t u w before after probes (Some op) h e f is same =
    sym (ap (row probes) (run-leaves-bus-after stops left t u w op h is ∙ ap (λ (r : Regs). (r, bus_after op t.0 t.1)) (sym f) ∙ ap (λ (r : Regs). (after, bus_after op r t.1)) (sym e))
    ∙ same t.1 ∙ ap (λ (r : Regs). row probes (r, t.1)) e)

-- ---- probes whose value an instruction leaves unchanged

pub excluded-if-false : {A : Type 0} (r : Bool) → not r ≡ true → (A → r ≡ true) → A → ⊥
excluded-if-false true off on a = absurd (cc)
excluded-if-false false off on a = let e = on a in absurd (cc)

pub rom-probe-stays-same : (op : Op) (before after : Regs) (at : ℕ) → StaysSame op before after (probe.Rom at)
rom-probe-stays-same op before after at m = ap (λ (xs : List ℕ). two_hex_digits (slice_index xs at)) (keeps-rom op before m)

pub ram-probe-stays-same : (op : Op) (before after : Regs) (bank src : ℕ) → op ≢ Wrm → StaysSame op before after (probe.Ram bank src)
ram-probe-stays-same op before after bank src off m = ap (λ (xs : List ℕ). digit_text (slice_index xs (ram_index bank src))) (keeps-ram op before m off)

pub status-probe-stays-same : (op : Op) (before after : Regs) (bank high k : ℕ) → (WritesStatus op → ⊥) → StaysSame op before after (probe.Status bank high k)
status-probe-stays-same op before after bank high k off m = ap (λ (xs : List ℕ). digit_text (slice_index xs (status_index bank high k))) (keeps-status op before m off)

pub level-probe-stays-same : (op : Op) (before after : Regs) (line : Line) → (WritesPort op → ⊥) → StaysSame op before after (probe.Level line)
level-probe-stays-same op before after line off m = ap digit_text (keeps-level op before m line off)

pub rom-port-probe-stays-same : (op : Op) (before after : Regs) (chip : ℕ) → (WritesPort op → ⊥) → StaysSame op before after (probe.RomPort chip)
rom-port-probe-stays-same op before after chip off m = ap digit_text (levels-equal-if-each-level-is m (bus_after op before m) (λ k. Rom chip k) (λ line. keeps-level op before m line off))

pub ram-port-probe-stays-same : (op : Op) (before after : Regs) (bank chip : ℕ) → (WritesPort op → ⊥) → StaysSame op before after (probe.RamPort bank chip)
ram-port-probe-stays-same op before after bank chip off m = ap digit_text (levels-equal-if-each-level-is m (bus_after op before m) (λ k. Ram bank chip k) (λ line. keeps-level op before m line off))

pub chain-probe-stays-same : (op : Op) (before after : Regs) (k : ℕ) → (WritesPort op → ⊥) → StaysSame op before after (probe.Chain k)
chain-probe-stays-same op before after k off m =
    holds-if-no-port-written op before m off (λ n. probe_text (after, n) (probe.Chain k) ≡ probe_text (before, m) (probe.Chain k)) (λ ram status srcs src. refl)

pub src-probe-stays-same : (op : Op) (before after : Regs) → ((k : ℕ) → op ≢ Src k) → StaysSame op before after probe.Src
src-probe-stays-same op before after off m = ap two_hex_digits (keeps-src op before m off)

pub lamps-probe-stays-same : (op : Op) (before after : Regs) → (WritesPort op → ⊥) → StaysSame op before after probe.Lamps
lamps-probe-stays-same op before after off m = keeps-lamps op before after m off

pub return-addresses-stay-same : (op : Op) (before after : Regs) → before.ret ≡ after.ret → StaysSame op before after probe.ReturnAddresses
return-addresses-stay-same op before after e m = ap (λ (xs : List ℕ). comma_list (map address_text xs)) (sym e)

-- ---- probes that an instruction leaves unchanged for any registers

return-addresses-of-either-registers : (b : Bool) (x y : Regs) (ret : List ℕ) → x.ret ≡ ret → y.ret ≡ ret → (cond b x y).ret ≡ ret
return-addresses-of-either-registers true x y ret e f = e
return-addresses-of-either-registers false x y ret e f = f

-- Only JMS and BBL change the return addresses.
keeps-return-addresses : (op : Op) (s : Regs) (m : BusState) → ((high low : ℕ) → op ≢ Jms high low) → ((digit : ℕ) → op ≢ Bbl digit) → (registers_after op s m).ret ≡ s.ret
keeps-return-addresses Nop s m jms bbl = refl
keeps-return-addresses (Jcn a b) s m jms bbl = return-addresses-of-either-registers _ _ _ s.ret refl refl
keeps-return-addresses (Fim a b) s m jms bbl = refl
keeps-return-addresses (Src a) s m jms bbl = refl
keeps-return-addresses (Fin a) s m jms bbl = refl
keeps-return-addresses (Jin a) s m jms bbl = refl
keeps-return-addresses (Jun a b) s m jms bbl = refl
keeps-return-addresses (Jms a b) s m jms bbl = absurd (jms a b refl)
keeps-return-addresses (Inc a) s m jms bbl = refl
keeps-return-addresses (Isz a b) s m jms bbl = return-addresses-of-either-registers _ _ _ s.ret refl refl
keeps-return-addresses (Add a) s m jms bbl = refl
keeps-return-addresses (Sub a) s m jms bbl = refl
keeps-return-addresses (Ld a) s m jms bbl = refl
keeps-return-addresses (Xch a) s m jms bbl = refl
keeps-return-addresses (Bbl a) s m jms bbl = absurd (bbl a refl)
keeps-return-addresses (Ldm a) s m jms bbl = refl
keeps-return-addresses Wrm s m jms bbl = refl
keeps-return-addresses Wmp s m jms bbl = refl
keeps-return-addresses Wrr s m jms bbl = refl
keeps-return-addresses Wr0 s m jms bbl = refl
keeps-return-addresses Wr1 s m jms bbl = refl
keeps-return-addresses Wr2 s m jms bbl = refl
keeps-return-addresses Wr3 s m jms bbl = refl
keeps-return-addresses Sbm s m jms bbl = refl
keeps-return-addresses Rdm s m jms bbl = refl
keeps-return-addresses Rdr s m jms bbl = refl
keeps-return-addresses Adm s m jms bbl = refl
keeps-return-addresses Rd0 s m jms bbl = refl
keeps-return-addresses Rd1 s m jms bbl = refl
keeps-return-addresses Rd2 s m jms bbl = refl
keeps-return-addresses Rd3 s m jms bbl = refl
keeps-return-addresses Clb s m jms bbl = refl
keeps-return-addresses Clc s m jms bbl = refl
keeps-return-addresses Iac s m jms bbl = refl
keeps-return-addresses Cmc s m jms bbl = refl
keeps-return-addresses Cma s m jms bbl = refl
keeps-return-addresses Ral s m jms bbl = refl
keeps-return-addresses Rar s m jms bbl = refl
keeps-return-addresses Tcc s m jms bbl = refl
keeps-return-addresses Dac s m jms bbl = refl
keeps-return-addresses Tcs s m jms bbl = refl
keeps-return-addresses Stc s m jms bbl = refl
keeps-return-addresses Daa s m jms bbl = return-addresses-of-either-registers _ _ _ s.ret refl refl
keeps-return-addresses Kbp s m jms bbl = refl
keeps-return-addresses Dcl s m jms bbl = refl

pub return-addresses-always-stay-same : (op : Op) → ((high low : ℕ) → op ≢ Jms high low) → ((digit : ℕ) → op ≢ Bbl digit) → AlwaysStaysSame op probe.ReturnAddresses
return-addresses-always-stay-same op jms bbl s m = ap (λ (xs : List ℕ). comma_list (map address_text xs)) (keeps-return-addresses op (after_fetch op s) m jms bbl)

-- If an instruction leaves a probe unchanged for any registers before and after it,
-- `AlwaysStaysSame` holds for the probe.
pub stays-same-for-any-registers : (op : Op) (p : Probe) → ((before after : Regs) → StaysSame op before after p) → AlwaysStaysSame op p
stays-same-for-any-registers op p h s m = h s (registers_after op (after_fetch op s) m) m

-- If `RowAlwaysStaysSame` holds for an instruction, the row is the same before and after it.
row-stays-same-by-kinds : (stops : StopConditions) (left : ℕ) (t u : Machine) (w : InstructionResult) (probes : List Probe) (begun : Option Op) → IsInstructionResult stops left t u w → w.op ≡ begun → RowAlwaysStaysSame begun probes → row probes t ≡ row probes u
row-stays-same-by-kinds stops left t u w probes None h is same = absurd same
row-stays-same-by-kinds stops left t u w probes (Some op) h is same =
    let at = not-owed-if-instruction-begun (eqb t.0.owed 1) op (instruction_at t.0 t.1) w.op is h.op in
    sym (ap (row probes) (only_owed_differs-after_instruction left w.cycles t u h.ran h.some) ∙ row-ignores-owed probes (after_cycles 1 t) u.0.owed ∙ ap (row probes) (one_cycle_is_effect op t at.0 at.1) ∙ same t.0 t.1)

pub row-stays-same : (stops : StopConditions) (left : ℕ) (t u : Machine) (w : InstructionResult) (before after : Regs) (probes : List Probe) → IsInstructionResult stops left t u w → before ≡ t.0 → after ≡ u.0 → RowStaysSame w.op before after probes ⊎ RowAlwaysStaysSame w.op probes → row probes t ≡ row probes u
row-stays-same stops left t u w before after probes h e f (inl same) = row-stays-same-by-values stops left t u w before after probes w.op h e f refl same
row-stays-same stops left t u w before after probes h e f (inr same) = row-stays-same-by-kinds stops left t u w probes w.op h refl same

-- ---- the kinds of probes in a row

-- If `more` has all kinds in `probe_kinds`, an instruction that touches no kind in `more` touches
-- no kind in `probe_kinds`.
touches_fewer_kinds : (probe_kinds more : ProbeKinds) → (more.ports ≡ false → probe_kinds.ports ≡ false) → (more.ram ≡ false → probe_kinds.ram ≡ false) → (more.status ≡ false → probe_kinds.status ≡ false) → (more.src ≡ false → probe_kinds.src ≡ false) → (more.return_addresses ≡ false → probe_kinds.return_addresses ≡ false)
    → (op : Op) → touches more op ≡ false → touches probe_kinds op ≡ false
touches_fewer_kinds probe_kinds more ports ram status src return_addresses Nop e = refl
touches_fewer_kinds probe_kinds more ports ram status src return_addresses (Jcn a b) e = refl
touches_fewer_kinds probe_kinds more ports ram status src return_addresses (Fim a b) e = refl
touches_fewer_kinds probe_kinds more ports ram status src return_addresses (Src a) e = src e
touches_fewer_kinds probe_kinds more ports ram status src return_addresses (Fin a) e = refl
touches_fewer_kinds probe_kinds more ports ram status src return_addresses (Jin a) e = refl
touches_fewer_kinds probe_kinds more ports ram status src return_addresses (Jun a b) e = refl
touches_fewer_kinds probe_kinds more ports ram status src return_addresses (Jms a b) e = return_addresses e
touches_fewer_kinds probe_kinds more ports ram status src return_addresses (Inc a) e = refl
touches_fewer_kinds probe_kinds more ports ram status src return_addresses (Isz a b) e = refl
touches_fewer_kinds probe_kinds more ports ram status src return_addresses (Add a) e = refl
touches_fewer_kinds probe_kinds more ports ram status src return_addresses (Sub a) e = refl
touches_fewer_kinds probe_kinds more ports ram status src return_addresses (Ld a) e = refl
touches_fewer_kinds probe_kinds more ports ram status src return_addresses (Xch a) e = refl
touches_fewer_kinds probe_kinds more ports ram status src return_addresses (Bbl a) e = return_addresses e
touches_fewer_kinds probe_kinds more ports ram status src return_addresses (Ldm a) e = refl
touches_fewer_kinds probe_kinds more ports ram status src return_addresses Wrm e = ram e
touches_fewer_kinds probe_kinds more ports ram status src return_addresses Wmp e = ports e
touches_fewer_kinds probe_kinds more ports ram status src return_addresses Wrr e = ports e
touches_fewer_kinds probe_kinds more ports ram status src return_addresses Wr0 e = status e
touches_fewer_kinds probe_kinds more ports ram status src return_addresses Wr1 e = status e
touches_fewer_kinds probe_kinds more ports ram status src return_addresses Wr2 e = status e
touches_fewer_kinds probe_kinds more ports ram status src return_addresses Wr3 e = status e
touches_fewer_kinds probe_kinds more ports ram status src return_addresses Sbm e = refl
touches_fewer_kinds probe_kinds more ports ram status src return_addresses Rdm e = refl
touches_fewer_kinds probe_kinds more ports ram status src return_addresses Rdr e = refl
touches_fewer_kinds probe_kinds more ports ram status src return_addresses Adm e = refl
touches_fewer_kinds probe_kinds more ports ram status src return_addresses Rd0 e = refl
touches_fewer_kinds probe_kinds more ports ram status src return_addresses Rd1 e = refl
touches_fewer_kinds probe_kinds more ports ram status src return_addresses Rd2 e = refl
touches_fewer_kinds probe_kinds more ports ram status src return_addresses Rd3 e = refl
touches_fewer_kinds probe_kinds more ports ram status src return_addresses Clb e = refl
touches_fewer_kinds probe_kinds more ports ram status src return_addresses Clc e = refl
touches_fewer_kinds probe_kinds more ports ram status src return_addresses Iac e = refl
touches_fewer_kinds probe_kinds more ports ram status src return_addresses Cmc e = refl
touches_fewer_kinds probe_kinds more ports ram status src return_addresses Cma e = refl
touches_fewer_kinds probe_kinds more ports ram status src return_addresses Ral e = refl
touches_fewer_kinds probe_kinds more ports ram status src return_addresses Rar e = refl
touches_fewer_kinds probe_kinds more ports ram status src return_addresses Tcc e = refl
touches_fewer_kinds probe_kinds more ports ram status src return_addresses Dac e = refl
touches_fewer_kinds probe_kinds more ports ram status src return_addresses Tcs e = refl
touches_fewer_kinds probe_kinds more ports ram status src return_addresses Stc e = refl
touches_fewer_kinds probe_kinds more ports ram status src return_addresses Daa e = refl
touches_fewer_kinds probe_kinds more ports ram status src return_addresses Kbp e = refl
touches_fewer_kinds probe_kinds more ports ram status src return_addresses Dcl e = refl

-- An instruction that touches no kind in `probe_kinds` differs from any instruction that touches a
-- kind in `probe_kinds`.
differs-from-touching-instruction : (probe_kinds : ProbeKinds) (op other : Op) (b : Bool) → touches probe_kinds op ≡ false → touches probe_kinds other ≡ b → b ≡ true → op ≡ other → ⊥
differs-from-touching-instruction probe_kinds op other b e is on same = let h = sym (ap (touches probe_kinds) same) ∙ e in absurd (cc)

writes-no-port : (probe_kinds : ProbeKinds) (op : Op) → touches probe_kinds op ≡ false → probe_kinds.ports ≡ true → WritesPort op → ⊥
writes-no-port probe_kinds op e on (inl same) = differs-from-touching-instruction probe_kinds op Wmp probe_kinds.ports e refl on same
writes-no-port probe_kinds op e on (inr same) = differs-from-touching-instruction probe_kinds op Wrr probe_kinds.ports e refl on same

writes-no-status : (probe_kinds : ProbeKinds) (op : Op) → touches probe_kinds op ≡ false → probe_kinds.status ≡ true → WritesStatus op → ⊥
writes-no-status probe_kinds op e on (inl same) = differs-from-touching-instruction probe_kinds op Wr0 probe_kinds.status e refl on same
writes-no-status probe_kinds op e on (inr (inl same)) = differs-from-touching-instruction probe_kinds op Wr1 probe_kinds.status e refl on same
writes-no-status probe_kinds op e on (inr (inr (inl same))) = differs-from-touching-instruction probe_kinds op Wr2 probe_kinds.status e refl on same
writes-no-status probe_kinds op e on (inr (inr (inr same))) = differs-from-touching-instruction probe_kinds op Wr3 probe_kinds.status e refl on same

absurd_if_true_is_false : {A : Type 0} → true ≡ false → A
absurd_if_true_is_false e = absurd (cc)

unchanged-flag-stays-false : (b : Bool) → b ≡ false → b ≡ false
unchanged-flag-stays-false b e = e

pub includes-rom-probe : (probe_kinds : ProbeKinds) (at : ℕ) → IncludesProbeKind probe_kinds probe_kinds (probe.Rom at)
includes-rom-probe probe_kinds at = record {
  registers = λ e. e;
  earlier_kinds = λ op e. e;
  probe_kind = λ _ op e. stays-same-for-any-registers op (probe.Rom at) (λ before after. rom-probe-stays-same op before after at);
}

pub includes-ram-probe : (probe_kinds : ProbeKinds) (bank src : ℕ) → IncludesProbeKind probe_kinds (record probe_kinds { ram = true }) (probe.Ram bank src)
includes-ram-probe probe_kinds bank src =
    let more : ProbeKinds = record probe_kinds { ram = true } in
    record {
      registers = λ e. e;
      earlier_kinds = touches_fewer_kinds probe_kinds more (unchanged-flag-stays-false probe_kinds.ports) absurd_if_true_is_false (unchanged-flag-stays-false probe_kinds.status) (unchanged-flag-stays-false probe_kinds.src) (unchanged-flag-stays-false probe_kinds.return_addresses);
      probe_kind = λ _ op e. stays-same-for-any-registers op (probe.Ram bank src) (λ before after. ram-probe-stays-same op before after bank src (differs-from-touching-instruction more op Wrm true e refl refl));
    }

pub includes-status-probe : (probe_kinds : ProbeKinds) (bank high k : ℕ) → IncludesProbeKind probe_kinds (record probe_kinds { status = true }) (probe.Status bank high k)
includes-status-probe probe_kinds bank high k =
    let more : ProbeKinds = record probe_kinds { status = true } in
    record {
      registers = λ e. e;
      earlier_kinds = touches_fewer_kinds probe_kinds more (unchanged-flag-stays-false probe_kinds.ports) (unchanged-flag-stays-false probe_kinds.ram) absurd_if_true_is_false (unchanged-flag-stays-false probe_kinds.src) (unchanged-flag-stays-false probe_kinds.return_addresses);
      probe_kind = λ _ op e. stays-same-for-any-registers op (probe.Status bank high k) (λ before after. status-probe-stays-same op before after bank high k (writes-no-status more op e refl));
    }

-- A probe that only WMP and WRR can change is of the kind `ports`.
pub includes-port-probe : (probe_kinds : ProbeKinds) (p : Probe) → ((op : Op) (before after : Regs) → (WritesPort op → ⊥) → StaysSame op before after p) → IncludesProbeKind probe_kinds (record probe_kinds { ports = true }) p
includes-port-probe probe_kinds p h =
    let more : ProbeKinds = record probe_kinds { ports = true } in
    record {
      registers = λ e. e;
      earlier_kinds = touches_fewer_kinds probe_kinds more absurd_if_true_is_false (unchanged-flag-stays-false probe_kinds.ram) (unchanged-flag-stays-false probe_kinds.status) (unchanged-flag-stays-false probe_kinds.src) (unchanged-flag-stays-false probe_kinds.return_addresses);
      probe_kind = λ _ op e. stays-same-for-any-registers op p (λ before after. h op before after (writes-no-port more op e refl));
    }

pub includes-src-probe : (probe_kinds : ProbeKinds) → IncludesProbeKind probe_kinds (record probe_kinds { src = true }) probe.Src
includes-src-probe probe_kinds =
    let more : ProbeKinds = record probe_kinds { src = true } in
    record {
      registers = λ e. e;
      earlier_kinds = touches_fewer_kinds probe_kinds more (unchanged-flag-stays-false probe_kinds.ports) (unchanged-flag-stays-false probe_kinds.ram) (unchanged-flag-stays-false probe_kinds.status) absurd_if_true_is_false (unchanged-flag-stays-false probe_kinds.return_addresses);
      probe_kind = λ _ op e. stays-same-for-any-registers op probe.Src (λ before after. src-probe-stays-same op before after (λ k. differs-from-touching-instruction more op (Src k) true e refl refl));
    }

pub includes-return-addresses-probe : (probe_kinds : ProbeKinds) → IncludesProbeKind probe_kinds (record probe_kinds { return_addresses = true }) probe.ReturnAddresses
includes-return-addresses-probe probe_kinds =
    let more : ProbeKinds = record probe_kinds { return_addresses = true } in
    record {
      registers = λ e. e;
      earlier_kinds = touches_fewer_kinds probe_kinds more (unchanged-flag-stays-false probe_kinds.ports) (unchanged-flag-stays-false probe_kinds.ram) (unchanged-flag-stays-false probe_kinds.status) (unchanged-flag-stays-false probe_kinds.src) absurd_if_true_is_false;
      probe_kind = λ _ op e. return-addresses-always-stay-same op (λ high low. differs-from-touching-instruction more op (Jms high low) true e refl refl) (λ digit. differs-from-touching-instruction more op (Bbl digit) true e refl refl);
    }

pub includes-register-probe : (probe_kinds : ProbeKinds) (p : Probe) → IncludesProbeKind probe_kinds (record probe_kinds { registers = true }) p
includes-register-probe probe_kinds p =
    let more : ProbeKinds = record probe_kinds { registers = true } in
    record {
      registers = absurd_if_true_is_false;
      earlier_kinds = touches_fewer_kinds probe_kinds more (unchanged-flag-stays-false probe_kinds.ports) (unchanged-flag-stays-false probe_kinds.ram) (unchanged-flag-stays-false probe_kinds.status) (unchanged-flag-stays-false probe_kinds.src) (unchanged-flag-stays-false probe_kinds.return_addresses);
      probe_kind = λ e. absurd_if_true_is_false e;
    }
