use Rattle.std.proofs.Common.{◌+◌, ◌≤◌, length}
use Rattle.mcs_asm.specs.View.{line_view}
use Rattle.mcs_asm.proofs.SpelledLists.{line_fits_in_rom}
use Rattle.mcs_asm.proofs.passes.SecondPassState.emit_parsed_line_or_error.Goals as goal

pub emit_bytes_or_error-requires-clause-room : goal.emit_bytes_or_error-requires-clause-room
emit_bytes_or_error-requires-clause-room c =
    let room : c.args.self.now.at + length c.in-Ok.bytes.items ≤ 4096 = line_fits_in_rom c.args.self.now.at c.args.names.now.names (line_view c.args.line.now) c.in-Ok.bytes.items c.in-Ok.ensures c.requires.1 c.args.self.now.in_range in
    rw (c.deref.ensures.value) room
