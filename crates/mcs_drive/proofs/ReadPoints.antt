-- Runs, split where a cycle reads an input.
use Rattle.std.proofs.Common.{◌≡◌, ℕ, ◌+◌, ◌-◌, ◌/◌, ◌<◌, zero, suc, List, Bool, true, false, cond, Option, Some, None, unwrap_or, inl, inr, refl, sym, ap, ◌∙◌, subst, arith, nat_lt, eqb}
use Rattle.std.proofs.lemmas.Bool.{cases_lt}
use Rattle.mcs_nibble.specs.declared.lines.LineMask.{LineMask}
use Rattle.mcs_model.specs.declared.regs.Regs.{Regs}
use Rattle.mcs_model.specs.declared.op.Op.{Op}
use Rattle.mcs_model.specs.declared.op.Op.TheVariants.{Src, Wrm, Wmp, Wrr, Wr0, Wr1, Wr2, Wr3}
use Rattle.mcs_model.specs.declared.board.BoardParts.{BoardParts}
use Rattle.mcs_nibble.specs.Ports.{latch_value}
use Rattle.mcs_model.specs.Boards.{board_fault_of, rom_masks}
use Rattle.mcs_model.specs.Bus.{BusState, after_src, chips_of, src_of, has_chip, with_ram, after_ram, with_status, after_status}
use Rattle.mcs_model.specs.Levels.{clock_levels, after_chain_clocks, with_rom_ports_at, after_ram_port, after_rom_port}
use Rattle.mcs_model.specs.Effect.{bus_after, cycle_of, effect, instruction_at}
use Rattle.mcs_model.specs.Running.{Machine}
use Rattle.mcs_drive.specs.DrivenRuns.{AreAllowed, InputLimits, Levels}
use Rattle.mcs_drive.specs.TrackedMachine.{Observer, TrackedMachine, machine_in, with_levels, without_levels, cycled, after_cycles, next_reads_input, driven, Holds}
use Rattle.mcs_drive.specs.RunsBetweenReads.{IgnoresLevels, LeadsTo}
use Rattle.mcs_drive.proofs.Tracking.{cycled-with_levels-if-no-read}

-- ---- a cycle does not change the board

board-of-cond : (b : Bool) (m n : BusState) (board : BoardParts) → m.board ≡ board → n.board ≡ board → (cond b m n).board ≡ board
board-of-cond true m n board h k = h
board-of-cond false m n board h k = k

board-unchanged-by-rom_port-write : (m : BusState) (n : ℕ) (o : Option (List LineMask)) → (elim o as (λ _. BusState) [ Some mask ↦ after_chain_clocks (clock_levels m) (with_rom_ports_at m (m.rom_src / 16) (latch_value mask n)) | None ↦ m ]).board ≡ m.board
unfolding after_chain_clocks
board-unchanged-by-rom_port-write m n None = refl
board-unchanged-by-rom_port-write m n (Some mask) = refl

board-unchanged-by-bus_after : (op : Op) (s : Regs) (m : BusState) → (bus_after op s m).board ≡ m.board
unfolding after_src after_ram with_ram after_status with_status after_ram_port after_rom_port after_chain_clocks
board-unchanged-by-bus_after (Src k) s m = board-of-cond (nat_lt 0 (chips_of m s.dcl)) _ _ m.board refl refl
board-unchanged-by-bus_after Wrm s m = board-of-cond (has_chip m s.dcl (src_of m s.dcl)) _ _ m.board refl refl
board-unchanged-by-bus_after Wmp s m = board-of-cond (has_chip m s.dcl (src_of m s.dcl)) _ _ m.board refl refl
board-unchanged-by-bus_after Wrr s m = board-unchanged-by-rom_port-write m s.acc (rom_masks m.board (m.rom_src / 16))
board-unchanged-by-bus_after Wr0 s m = board-of-cond (nat_lt (src_of m s.dcl / 16 / 4) (chips_of m s.dcl)) _ _ m.board refl refl
board-unchanged-by-bus_after Wr1 s m = board-of-cond (nat_lt (src_of m s.dcl / 16 / 4) (chips_of m s.dcl)) _ _ m.board refl refl
board-unchanged-by-bus_after Wr2 s m = board-of-cond (nat_lt (src_of m s.dcl / 16 / 4) (chips_of m s.dcl)) _ _ m.board refl refl
board-unchanged-by-bus_after Wr3 s m = board-of-cond (nat_lt (src_of m s.dcl / 16 / 4) (chips_of m s.dcl)) _ _ m.board refl refl
board-unchanged-by-bus_after _ s m = refl

board-unchanged-by-cycle_of : (s : Machine) (b : Bool) (o : Option Op) → (unwrap_or (cond b (Some (record s.0 { owed = 0 }, s.1)) (elim o as (λ _. Option (Regs × BusState)) [ Some op ↦ Some (effect op s.0 s.1) | None ↦ None ])) s).1.board ≡ s.1.board
board-unchanged-by-cycle_of s true o = refl
board-unchanged-by-cycle_of s false None = refl
board-unchanged-by-cycle_of s false (Some op) = board-unchanged-by-bus_after op s.0 s.1

module _ (w : Observer) where
  pub cycle-board : (s : TrackedMachine) → (cycled w s).1.board ≡ s.1.board
  unfolding cycle_of
  cycle-board s = board-unchanged-by-cycle_of (machine_in s) (eqb s.0.owed 1) (instruction_at s.0 s.1)

  pub cycles-board : (k : ℕ) (s : TrackedMachine) → (after_cycles w k s).1.board ≡ s.1.board
  cycles-board zero s = refl
  cycles-board (suc k) s = cycle-board (after_cycles w k s) ∙ cycles-board k s

  -- ---- runs with changing inputs

  driven-add : (f : ℕ → Levels) (n m : ℕ) (s : TrackedMachine) → driven w f (n + m) s ≡ driven w (λ i. f (n + i)) m (driven w f n s)
  driven-add f n zero s = ap (λ k. driven w f k s) (omega arith)
  driven-add f n (suc m) s = (let e : n + suc m ≡ suc (n + m) = omega arith in ap (λ k. driven w f k s) e) ∙ ap (λ (t : TrackedMachine). cycled w (with_levels (f (n + m)) t)) (driven-add f n m s)

  driven-alike : (f : ℕ → Levels) (k : ℕ) (s t : TrackedMachine) → without_levels s ≡ without_levels t → without_levels (driven w f k s) ≡ without_levels (driven w f k t)
  driven-alike f zero s t e = e
  driven-alike f (suc k) s t e = ap (λ (m : TrackedMachine). without_levels (cycled w (with_levels (f k) m))) (driven-alike f k s t e)

  -- in a run in which only the first cycle reads an input, only the levels before the first cycle
  -- matter
  pub driven-quiet : (f : ℕ → Levels) (n : ℕ) (a : TrackedMachine) → board_fault_of a.1.board ≡ None → ((i : ℕ) → i < n → next_reads_input (after_cycles w (suc i) (with_levels (f 0) a)) ≡ false) → without_levels (driven w f (suc n) a) ≡ without_levels (after_cycles w (suc n) (with_levels (f 0) a))
  driven-quiet f zero a v quiet = refl
  driven-quiet f (suc n) a v quiet =
      let b = with_levels (f 0) a in
      let l = f (suc n) in
      let ago = driven-quiet f n a v (λ i h. quiet i (omega arith)) in
      let sound = ap board_fault_of (cycles-board (suc n) b) ∙ v in
      ap (λ (m : TrackedMachine). without_levels (cycled w (with_levels l m))) ago
      ∙ ap without_levels (cycled-with_levels-if-no-read w l (after_cycles w (suc n) b) sound (quiet n (omega arith)))

  -- ---- machines before a read of an input

  -- holds if `a`, at the input levels `l`, leads to a machine in `R`
  abbrev pub Leads : (TrackedMachine → Bool) → (TrackedMachine → Type 0) → TrackedMachine → Levels → Type 0
  Leads p R a l = (to : TrackedMachine) × R to × LeadsTo w p a to l

  -- Holds if `p` is true for each machine in `R`, and each machine in `R` leads to a machine in `R`
  -- at all input levels within the limits. Each machine in `R` must have a valid board, and `p`
  -- must ignore the input levels.
  pub record IsClosedSet (limits : InputLimits) (p : TrackedMachine → Bool) (R : TrackedMachine → Type 0) : Type 0 where
    pub ignores : IgnoresLevels p
    pub sound : (a : TrackedMachine) → R a → board_fault_of a.1.board ≡ None
    pub property_holds : (a : TrackedMachine) → R a → p a ≡ true
    pub leads : (a : TrackedMachine) (l : Levels) → R a → AreAllowed limits a.1.board l → Leads p R a l

  -- ---- an invariant of one run, which may depend on the inputs and on the moment

  -- Holds if `a`, reached at moment `n` of a run, leads at the input levels `l` to a machine for
  -- which `R` holds at the moment of its arrival.
  abbrev pub LeadsAlong : (TrackedMachine → Bool) → (ℕ → TrackedMachine → Type 0) → ℕ → TrackedMachine → Levels → Type 0
  LeadsAlong p R n a l = (to : TrackedMachine) × (leads : LeadsTo w p a to l) × R (n + suc leads.more) to

  -- Holds if `p` is true for each machine for which `R` holds at some moment. At the levels that the
  -- inputs `f` have at that moment, each such machine must lead to a machine for which `R` holds.
  -- Each such machine must have a valid board, and `p` must ignore the input levels.
  pub record IsClosedAlong (f : ℕ → Levels) (p : TrackedMachine → Bool) (R : ℕ → TrackedMachine → Type 0) : Type 0 where
    pub ignores : IgnoresLevels p
    pub sound : (n : ℕ) (a : TrackedMachine) → R n a → board_fault_of a.1.board ≡ None
    pub property_holds : (n : ℕ) (a : TrackedMachine) → R n a → p a ≡ true
    pub leads : (n : ℕ) (a : TrackedMachine) → R n a → LeadsAlong p R n a (f n)

  closed_along-holds : (f : ℕ → Levels) (p : TrackedMachine → Bool) (R : ℕ → TrackedMachine → Type 0) → IsClosedAlong f p R → (fuel k : ℕ) → k < fuel →
      (n : ℕ) (g : ℕ → Levels) → ((i : ℕ) → g i ≡ f (n + i)) → (a : TrackedMachine) → R n a → p (driven w g k a) ≡ true
  closed_along-holds f p R c zero k h n g same a is = absurd (omega arith)
  closed_along-holds f p R c (suc fuel) zero h n g same a is = c.property_holds n a is
  closed_along-holds f p R c (suc fuel) (suc k) h n g same a is =
      let now : n + 0 ≡ n = omega arith in
      let step = subst (LeadsAlong p R n a) (sym (same 0 ∙ ap f now)) (c.leads n a is) in
      let to = step.0 in
      let leads = step.1 in
      let v = c.sound n a is in
      elim (cases_lt leads.more k) [
        | inl beyond ↦
            let m = suc leads.more in
            let rest = k - leads.more in
            let split : suc k ≡ m + rest = omega arith in
            let came : without_levels (driven w g m a) ≡ without_levels to = driven-quiet g leads.more a v leads.quiet ∙ leads.same in
            let later : ℕ → Levels = λ i. g (m + i) in
            let first : p (driven w g (suc k) a) ≡ p (driven w later rest (driven w g m a)) = ap (λ j. p (driven w g j a)) split ∙ ap p (driven-add g m rest a) in
            let alike : p (driven w later rest (driven w g m a)) ≡ p (driven w later rest to) =
            c.ignores (driven w later rest (driven w g m a)) ∙ ap p (driven-alike later rest (driven w g m a) to came) ∙ sym (c.ignores (driven w later rest to)) in
            first ∙ alike ∙ closed_along-holds f p R c fuel rest (omega arith) (n + m) later (λ i. same (m + i) ∙ (let e : n + (m + i) ≡ (n + m) + i = omega arith in ap f e)) to step.2
        | inr within ↦
            c.ignores (driven w g (suc k) a)
            ∙ ap p (driven-quiet g k a v (λ i l. leads.quiet i (omega arith)))
            ∙ sym (c.ignores (after_cycles w (suc k) (with_levels (g 0) a))) ∙ leads.property_holds k within
      ]

  -- if `R` is closed along the inputs `f` and holds for `a` at the start, then `p` holds at every
  -- moment of the run from `a` at these inputs
  pub holds-along : (f : ℕ → Levels) (p : TrackedMachine → Bool) (R : ℕ → TrackedMachine → Type 0) → IsClosedAlong f p R → (a : TrackedMachine) → R 0 a → (k : ℕ) → p (driven w f k a) ≡ true
  holds-along f p R c a is k = closed_along-holds f p R c (suc k) k (omega arith) 0 f (λ i. (let e : i ≡ 0 + i = omega arith in ap f e)) a is

  -- a run from one read to the next does not change the board
  pub leads-board : (p : TrackedMachine → Bool) (a to : TrackedMachine) (l : Levels) → LeadsTo w p a to l → to.1.board ≡ a.1.board
  leads-board p a to l leads = sym (ap (λ (m : TrackedMachine). m.1.board) leads.same) ∙ cycles-board (suc leads.more) (with_levels l a)

  -- ---- an invariant that depends on the machine alone

  -- a closed set is closed along all inputs within the limits
  closed-along : (limits : InputLimits) (p : TrackedMachine → Bool) (R : TrackedMachine → Type 0) → IsClosedSet limits p R → (board : BoardParts) (f : ℕ → Levels) →
      ((i : ℕ) → AreAllowed limits board (f i)) → IsClosedAlong f p (λ n a. R a × (a.1.board ≡ board))
  closed-along limits p R c board f fit = record {
    ignores = c.ignores;
    sound = λ n a at. c.sound a at.0;
    property_holds = λ n a at. c.property_holds a at.0;
    leads = λ n a at.
        let step = c.leads a (f n) at.0 (subst (λ (b : BoardParts). AreAllowed limits b (f n)) (sym at.1) (fit n)) in
        (step.0, step.2, (step.1, leads-board p a step.0 (f n) step.2 ∙ at.1));
  }

  -- if `R` is closed and contains `a`, then `p` holds at every moment of every run from `a` within
  -- the limits
  pub closed-holds : (limits : InputLimits) (p : TrackedMachine → Bool) (R : TrackedMachine → Type 0) → IsClosedSet limits p R → (a : TrackedMachine) → R a → Holds limits w p a
  closed-holds limits p R c a is = λ f allowed k.
      holds-along f p (λ n b. R b × (b.1.board ≡ a.1.board)) (closed-along limits p R c a.1.board f allowed.levels) a (is, refl) k
