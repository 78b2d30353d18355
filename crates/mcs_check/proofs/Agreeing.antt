-- Two valid buses are equal if they agree in every chip that the board has. This is the main step
-- of `state_vectors_determine_machines`.
use Rattle.std.proofs.Common.{◌≡◌, ◌<◌, ◌/◌, ◌%◌, ℕ, inl, inr, List, Option, Some, None, MatchOption, length, get_or, slice_index, refl, sym, ap, ◌∙◌, arith}
use Rattle.std.proofs.lemmas.Bool.{cases_lt}
use Rattle.std.proofs.lemmas.List.{same_lists}
use Rattle.std.proofs.lemmas.Grind.{get_or_default_zero}
use Rattle.mcs_nibble.specs.declared.lines.LineMask.{LineMask}
use Rattle.mcs_nibble.specs.Ports.{latch_value}
use Rattle.mcs_model.specs.declared.board.BoardParts.{BoardParts}
use Rattle.mcs_model.specs.Boards.{rom_masks}
use Rattle.mcs_model.specs.Bus.{BusState, chips_of, ram_index, status_index, ram_port_index}
use Rattle.mcs_model.specs.Validity.{IsValidBus}
use Rattle.mcs_check.specs.BusAgreement.{AgreesInChips}

equal_lists-if_equal_numbers : (xs ys : List ℕ) (n : ℕ) → length xs ≡ n → length ys ≡ n → ((k : ℕ) → k < n → get_or xs k 0 ≡ get_or ys k 0) → xs ≡ ys
equal_lists-if_equal_numbers xs ys n lx ly h =
    same_lists xs ys (lx ∙ sym ly) (λ k d l. get_or_default_zero xs k d l ∙ h k (omega arith) ∙ sym (get_or_default_zero ys k d (omega arith)))

chips_of-equal_boards : (s t : BusState) (bank : ℕ) → s.board ≡ t.board → chips_of s bank ≡ chips_of t bank
chips_of-equal_boards s t bank e = ap (λ (b : BoardParts). slice_index b.banks bank) e

equal_ram-at : (s t : BusState) → IsValidBus s → IsValidBus t → AgreesInChips s t → (k : ℕ) → get_or s.ram k 0 ≡ get_or t.ram k 0
equal_ram-at s t v w a k =
    let bank = k / 256 in
    let src = k % 256 in
    let at : ram_index bank src ≡ k = omega arith in
    let small : src < 256 = omega arith in
    elim (cases_lt (src / 64) (chips_of s bank)) [
      | inl there ↦ ap (λ j. get_or s.ram j 0) (sym at) ∙ a.ram bank src small there ∙ ap (λ j. get_or t.ram j 0) at
      | inr gone ↦ ap (λ j. get_or s.ram j 0) (sym at) ∙ v.absent.ram bank src small gone ∙ sym (w.absent.ram bank src small (let e = chips_of-equal_boards s t bank a.board in omega arith)) ∙ ap (λ j. get_or t.ram j 0) at
    ]

equal_status-at : (s t : BusState) → IsValidBus s → IsValidBus t → AgreesInChips s t → (k : ℕ) → get_or s.status k 0 ≡ get_or t.status k 0
equal_status-at s t v w a k =
    let bank = k / 64 in
    let high = k % 64 / 4 in
    let c = k % 4 in
    let at : status_index bank high c ≡ k = omega arith in
    let small : high < 16 = omega arith in
    let few : c < 4 = omega arith in
    elim (cases_lt (high / 4) (chips_of s bank)) [
      | inl there ↦ ap (λ j. get_or s.status j 0) (sym at) ∙ a.status bank high c small few there ∙ ap (λ j. get_or t.status j 0) at
      | inr gone ↦ ap (λ j. get_or s.status j 0) (sym at) ∙ v.absent.status bank high c small few gone ∙ sym (w.absent.status bank high c small few (let e = chips_of-equal_boards s t bank a.board in omega arith)) ∙ ap (λ j. get_or t.status j 0) at
    ]

equal_ram_ports-at : (s t : BusState) → IsValidBus s → IsValidBus t → AgreesInChips s t → (k : ℕ) → get_or s.ram_ports k 0 ≡ get_or t.ram_ports k 0
equal_ram_ports-at s t v w a k =
    let bank = k / 4 in
    let chip = k % 4 in
    let at : ram_port_index bank chip ≡ k = omega arith in
    let small : chip < 4 = omega arith in
    elim (cases_lt chip (chips_of s bank)) [
      | inl there ↦ ap (λ j. get_or s.ram_ports j 0) (sym at) ∙ a.ram_ports bank chip small there ∙ ap (λ j. get_or t.ram_ports j 0) at
      | inr gone ↦ ap (λ j. get_or s.ram_ports j 0) (sym at) ∙ v.absent.ram_ports bank chip small gone ∙ sym (w.absent.ram_ports bank chip small (let e = chips_of-equal_boards s t bank a.board in omega arith)) ∙ ap (λ j. get_or t.ram_ports j 0) at
    ]

equal_ram_src-at : (s t : BusState) → IsValidBus s → IsValidBus t → AgreesInChips s t → (k : ℕ) → get_or s.ram_src k 0 ≡ get_or t.ram_src k 0
equal_ram_src-at s t v w a k =
    elim (cases_lt 0 (chips_of s k)) [
      | inl there ↦ a.ram_src k there
      | inr gone ↦ v.absent.ram_src k (omega arith) ∙ sym (w.absent.ram_src k (let e = chips_of-equal_boards s t k a.board in omega arith))
    ]

equal_rom_ports-by_mask_cases : (s t : BusState) (k : ℕ) (o p : Option (List LineMask)) → o ≡ p → ((mask : List LineMask) → o ≡ Some mask → get_or s.rom_ports k 0 ≡ get_or t.rom_ports k 0) →
    MatchOption o (get_or s.rom_ports k 0 ≡ 0) (λ mask. latch_value mask (get_or s.rom_ports k 0) ≡ get_or s.rom_ports k 0) →
    MatchOption p (get_or t.rom_ports k 0 ≡ 0) (λ mask. latch_value mask (get_or t.rom_ports k 0) ≡ get_or t.rom_ports k 0) → get_or s.rom_ports k 0 ≡ get_or t.rom_ports k 0
equal_rom_ports-by_mask_cases s t k (Some mask) p e h v w = h mask refl
equal_rom_ports-by_mask_cases s t k None None e h v w = v ∙ sym w
equal_rom_ports-by_mask_cases s t k None (Some mask) e h v w = absurd (cc)

equal_rom_ports-at : (s t : BusState) → IsValidBus s → IsValidBus t → AgreesInChips s t → (k : ℕ) → get_or s.rom_ports k 0 ≡ get_or t.rom_ports k 0
equal_rom_ports-at s t v w a k = equal_rom_ports-by_mask_cases s t k (rom_masks s.board k) (rom_masks t.board k) (ap (λ (b : BoardParts). rom_masks b k) a.board) (a.rom_ports k) (v.absent.rom_ports k) (w.absent.rom_ports k)

equal_buses-if_equal_fields : (s t : BusState) → s.board ≡ t.board → s.rom ≡ t.rom → s.ram ≡ t.ram → s.status ≡ t.status → s.ram_ports ≡ t.ram_ports → s.rom_ports ≡ t.rom_ports → s.rom_src ≡ t.rom_src → s.ram_src ≡ t.ram_src → s.chains ≡ t.chains → s.keys ≡ t.keys → s.test ≡ t.test → s ≡ t
equal_buses-if_equal_fields s t a b c d e f g h i j k =
    ap (λ x. record s { board = x }) a
    ∙ ap (λ x. record s { board = t.board; rom = x }) b
    ∙ ap (λ x. record s { board = t.board; rom = t.rom; ram = x }) c
    ∙ ap (λ x. record s { board = t.board; rom = t.rom; ram = t.ram; status = x }) d
    ∙ ap (λ x. record s { board = t.board; rom = t.rom; ram = t.ram; status = t.status; ram_ports = x }) e
    ∙ ap (λ x. record t { rom_ports = x; rom_src = s.rom_src; ram_src = s.ram_src; chains = s.chains; keys = s.keys; test = s.test }) f
    ∙ ap (λ x. record t { rom_src = x; ram_src = s.ram_src; chains = s.chains; keys = s.keys; test = s.test }) g
    ∙ ap (λ x. record t { ram_src = x; chains = s.chains; keys = s.keys; test = s.test }) h
    ∙ ap (λ x. record t { chains = x; keys = s.keys; test = s.test }) i
    ∙ ap (λ x. record t { keys = x; test = s.test }) j
    ∙ ap (λ x. record t { test = x }) k

pub equal_buses-if_they_agree : (s t : BusState) → IsValidBus s → IsValidBus t → AgreesInChips s t → s ≡ t
equal_buses-if_they_agree s t v w a =
    equal_buses-if_equal_fields s t a.board a.rom
    (equal_lists-if_equal_numbers s.ram t.ram 2048 v.in_range.ram.has_count w.in_range.ram.has_count (λ k l. equal_ram-at s t v w a k))
    (equal_lists-if_equal_numbers s.status t.status 512 v.in_range.status.has_count w.in_range.status.has_count (λ k l. equal_status-at s t v w a k))
    (equal_lists-if_equal_numbers s.ram_ports t.ram_ports 32 v.in_range.ram_ports.has_count w.in_range.ram_ports.has_count (λ k l. equal_ram_ports-at s t v w a k))
    (equal_lists-if_equal_numbers s.rom_ports t.rom_ports 16 v.in_range.rom_ports.has_count w.in_range.rom_ports.has_count (λ k l. equal_rom_ports-at s t v w a k))
    a.rom_src
    (equal_lists-if_equal_numbers s.ram_src t.ram_src 8 v.in_range.ram_src.has_count w.in_range.ram_src.has_count (λ k l. equal_ram_src-at s t v w a k))
    a.chains a.keys a.test
