use Rattle.std.proofs.Common.{◌-◌, string_bytes}
use Rattle.mcs_source.specs.Text.{listing_text}
use Rattle.mcs_dis.proofs.Loops.{IsListingSoFar}
use Rattle.mcs_dis.proofs.listings.listing.Given as goal

abbrev pub invariant-loop-line : goal.invariant-loop-line
invariant-loop-line l = IsListingSoFar (listing_text l.rom l.fn.from l.lines) (string_bytes l.out) (l.lines - l._line) l.at l.rest
