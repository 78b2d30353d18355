use Rattle.std.proofs.Common.{rules}
use Rattle.mcs_nibble.proofs.addresses.Addr.plus.Goals as goal

pub returns : goal.returns
returns c = search rules
