use Rattle.std.proofs.Common.{◌≡◌, ◌∙◌, ◌+◌, ◌≤◌, ◌++◌, ◌∷◌, [], ℕ, List, Result, OnOk, sym, subst, ap, length, Ok, Some}
use Rattle.std.specs.Prelude.{option_map}
use Rattle.mcs_source.specs.Lexical.{tokens}
use Rattle.mcs_source.specs.Lines.{line_of}
use Rattle.mcs_source.specs.Assembly.{line_bytes}
use Rattle.mcs_source.specs.declared.fault.SourceFault.{SourceFault}
use Rattle.mcs_asm.specs.View.{line_view}
use Rattle.mcs_asm.specs.Passes.{HasValidNumberAndAddress, SecondPassState, MatchesStateWithAddedBytes, span_at}
use Rattle.mcs_asm.proofs.SpelledLists.{line_fits_in_rom, bytes_of_line_are_added}
use Rattle.mcs_asm.proofs.passes.SecondPassState.emit_line.Goals as goal

pub add-requires-clause-room : goal.add-requires-clause-room
add-requires-clause-room c =
    let form : Some (line_view c.in-Some.line) ≡ line_of (tokens c.args.line.now) = ap (option_map line_view) (sym c.in-Some.is) ∙ c.in_ok-line.ensures in
    let free : HasValidNumberAndAddress c.args.self.now.at (Some (line_view c.in-Some.line)) = subst (HasValidNumberAndAddress c.args.self.now.at) (sym form) c.requires in
    let room : c.args.self.now.at + length c.in_ok-bytes.bytes.items ≤ 4096 = line_fits_in_rom c.args.self.now.at c.args.names.now.names (line_view c.in-Some.line) c.in_ok-bytes.bytes.items c.in_ok-bytes.ensures free.1 c.args.self.now.in_range in
    rw (c.deref.ensures.value) room

pub returns-clause-bytes : goal.returns-clause-bytes
returns-clause-bytes c = λ pairs kept.
    let form : Some (line_view c.in-Some.line) ≡ line_of (tokens c.args.line.now) = ap (option_map line_view) (sym c.in-Some.is) ∙ c.in_ok-line.ensures in
    let bytes = c.in_ok-bytes.ensures ∙ ap Ok (sym c.deref.ensures.value) in
    let before : SecondPassState = record { at = c.args.self.now.at; pairs = pairs } in
    subst (MatchesStateWithAddedBytes c.add.result c.add.new.self.at c.add.new.self.cells) (bytes_of_line_are_added c.args.names.now.names before (line_of (tokens c.args.line.now)) (line_view c.in-Some.line) c.deref.result.now c.address_after_line-next.result form bytes c.address_after_line-next.ensures.at)
    (c.add.ensures.bytes pairs kept)

pub returns-clause-span : goal.returns-clause-span
returns-clause-span c =
    let form : Some (line_view c.in-Some.line) ≡ line_of (tokens c.args.line.now) = ap (option_map line_view) (sym c.in-Some.is) ∙ c.in_ok-line.ensures in
    let bytes : line_bytes c.args.self.now.at c.args.names.now.names (line_of (tokens c.args.line.now)) ≡ Ok c.deref.result.now =
    ap (line_bytes c.args.self.now.at c.args.names.now.names) (sym form) ∙ (c.in_ok-bytes.ensures ∙ ap Ok (sym c.deref.ensures.value)) in
    subst (λ (r : Result (List ℕ) SourceFault). OnOk c.add.result (c.add.new.self.spans.items ≡ c.args.self.now.spans.items ++ span_at c.args.self.now.at r ∷ [])) (sym bytes) c.add.ensures.span
