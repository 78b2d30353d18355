use Rattle.std.proofs.Common.{rules}
use Rattle.mcs_codec.proofs.boards.port_characters.Goals as goal

pub returns : goal.returns
returns c = search rules
