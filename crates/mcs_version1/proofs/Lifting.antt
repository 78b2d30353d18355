-- Version 2 treats each command and each query of version 1 as version 1 does.
use Rattle.std.proofs.Common.{◌≡◌, List, [], ◌∷◌, refl, ap, ◌∙◌, IsTrue}
use Rattle.mcs_model.specs.declared.command.Command.{Command}
use Rattle.mcs_model.specs.declared.command.Command.TheVariants.{Wire, Load, Press, Release, Run, Step, Poke, Test, Reset, Break, Unbreak, Watch, Unwatch}
use Rattle.mcs_model.specs.declared.command.Place.TheVariants.{Acc, Cy, Pc, Register, Dcl, Rom, Ram, Status}
use Rattle.mcs_model.specs.Fold.{fold}
use Rattle.mcs_version1.specs.Command.{is_command_of_version_1, after_1}
use Rattle.mcs_version1.specs.BenchState.{BenchState1}
use Rattle.mcs_version1.specs.Fold.{fold_1, AreAccepted1}
use Rattle.mcs_version1.specs.Lift.{lift, IsLifted, lift_query}
use Rattle.mcs_version1.specs.QueryText.{Query1, text_of_query_1, Lamps, Regs, Ram, Breaks, Seq}
use Rattle.mcs_model.specs.QueryText.{text_of_query}

pub command-lifts : (s : BenchState1) (c : Command) → IsTrue (is_command_of_version_1 c) → IsLifted s c
command-lifts s (Wire board) h = record { refusal = refl; after = refl; reply = refl }
command-lifts s (Load image) h = record { refusal = refl; after = refl; reply = refl }
command-lifts s (Press row column) h = record { refusal = refl; after = refl; reply = refl }
command-lifts s (Release row column) h = record { refusal = refl; after = refl; reply = refl }
command-lifts s (Run n) h = record { refusal = refl; after = refl; reply = refl }
command-lifts s Step h = record { refusal = refl; after = refl; reply = refl }
command-lifts s (Poke (Acc n)) h = record { refusal = refl; after = refl; reply = refl }
command-lifts s (Poke (Cy n)) h = record { refusal = refl; after = refl; reply = refl }
command-lifts s (Poke (Pc n)) h = record { refusal = refl; after = refl; reply = refl }
command-lifts s (Poke (Register r n)) h = record { refusal = refl; after = refl; reply = refl }
command-lifts s (Poke (Dcl n)) h = record { refusal = refl; after = refl; reply = refl }
command-lifts s (Poke (Rom a n)) h = record { refusal = refl; after = refl; reply = refl }
command-lifts s (Poke (Ram b a n)) h = record { refusal = refl; after = refl; reply = refl }
command-lifts s (Poke (Status b a k n)) h = record { refusal = refl; after = refl; reply = refl }
command-lifts s (Test bit) h = record { refusal = refl; after = refl; reply = refl }
command-lifts s Reset h = record { refusal = refl; after = refl; reply = refl }
command-lifts s (Break at) h = record { refusal = refl; after = refl; reply = refl }
command-lifts s (Unbreak at) h = record { refusal = refl; after = refl; reply = refl }
command-lifts s (Watch bank src) h = absurd (cc)
command-lifts s (Unwatch bank src) h = absurd (cc)

pub query-lifts : (s : BenchState1) (q : Query1) → text_of_query (lift_query q) (lift s) ≡ text_of_query_1 q s
query-lifts s Lamps = refl
query-lifts s Regs = refl
query-lifts s (Ram bank) = refl
query-lifts s Breaks = refl
query-lifts s Seq = refl

pub fold-lifts : (s : BenchState1) (cs : List Command) → AreAccepted1 s cs → lift (fold_1 s cs) ≡ fold (lift s) cs
fold-lifts s [] _ = refl
fold-lifts s (c ∷ cs) h = fold-lifts (after_1 s c) cs h.1.1 ∙ ap (λ t. fold t cs) (command-lifts s c h.0).after
