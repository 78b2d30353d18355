-- Sets of standard streams.
use Rattle.std.specs.Prelude.{false}
use Rattle.mcs_host.specs.declared.streams.Streams.{Streams}

-- the empty set of streams
abbrev pub no_streams : Streams
no_streams = record { input = false; output = false; errors = false }
