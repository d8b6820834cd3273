-- Which streams leave the host.
use Rattle.std.specs.Prelude.{Bool, true, false}
use Rattle.sd_tcp.specs.declared.wire.Wire.{Wire}
use Rattle.sd_tcp.specs.declared.wire.Wire.TheVariants.{Tcp, Unix}

-- a stream through a Unix socket
abbrev pub is_unix : {S : Type 0} → Wire S → Bool
is_unix (Tcp stream) = false
is_unix (Unix stream) = true
