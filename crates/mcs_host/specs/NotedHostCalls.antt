-- The `AnsweredCall` for each `AnsweredRequest` of the code.
use Rattle.std.specs.Prelude.{ℕ, List, [], ◌∷◌}
use Rattle.mcs_host.specs.HostCalls as calls
use Rattle.mcs_host.specs.HostCalls.{AnsweredCall}
use Rattle.mcs_host.specs.declared.host_record.AnsweredRequest.{AnsweredRequest}
use Rattle.mcs_host.specs.declared.host_record.AnsweredRequest.TheVariants as requests

-- the `AnsweredCall` for an `AnsweredRequest` of the code, given the bytes or the name of the call
abbrev pub host_call_of : AnsweredRequest → List ℕ → AnsweredCall
host_call_of (requests.Lock ok) bytes = calls.Lock ok
host_call_of (requests.IsNamed ok) bytes = calls.IsNamed bytes ok
host_call_of (requests.Length n ok) bytes = calls.Length n ok
host_call_of (requests.SetLength n ok) bytes = calls.SetLength n ok
host_call_of (requests.ReadAt at ok) bytes = calls.ReadAt at bytes ok
host_call_of (requests.WriteAt at ok) bytes = calls.WriteAt at bytes ok
host_call_of (requests.SyncData ok) bytes = calls.SyncData ok
host_call_of (requests.SyncAll ok) bytes = calls.SyncAll ok
host_call_of (requests.SyncFolder ok) bytes = calls.SyncFolder bytes ok
host_call_of (requests.IsLink ok) bytes = calls.IsLink bytes ok
host_call_of (requests.RealName ok) bytes = calls.RealName bytes ok
host_call_of requests.OpenedOrCreated bytes = calls.OpenedOrCreated

-- the `AnsweredCall`s for the calls of a record, in the same order
abbrev pub host_calls_in : List (AnsweredRequest × List ℕ) → List AnsweredCall
host_calls_in [] = []
host_calls_in (note ∷ notes) = host_call_of note.0 note.1 ∷ host_calls_in notes
