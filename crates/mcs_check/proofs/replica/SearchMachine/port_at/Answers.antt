use Rattle.std.proofs.Common.{◌≡◌, ◌∙◌, ◌/◌, ℕ, List, refl, ap}
use Rattle.mcs_model.specs.Bus.{BusState}
use Rattle.mcs_model.specs.Levels.{is_pulled, port_at, port_of}
use Rattle.mcs_drive.specs.TrackedMachine.{TrackedMachine}
use Rattle.mcs_check.proofs.replica.SearchMachine.port_at.Goals as goal

-- the value of a port does not depend on TEST
port_of-ignores_test : (m : BusState) (keys : List ℕ) (test : ℕ) → port_of (record m { keys = keys }) ≡ port_of (record m { keys = keys; test = test })
unfolding port_at is_pulled
port_of-ignores_test m keys test = refl

pub returns-clause-value : goal.returns-clause-value
returns-clause-value c =
    let m = c.self.inside.rig in
    let keys = c.args.levels.now.keys in
    c.get-value.ensures.value
    ∙ c.read_port.ensures
    ∙ ap (port_at c.set_keys.new.rig) (c.high_of.ensures ∙ ap (λ (n : ℕ). n / 16) c.rom_src.ensures)
    ∙ ap port_of (c.set_keys.ensures ∙ ap (λ (xs : List ℕ). record m { keys = xs }) c.keys.ensures)
    ∙ ap (λ (x : BusState). port_of (record x { keys = keys })) (ap (λ (t : TrackedMachine). t.1) c.self.view_is)
    ∙ port_of-ignores_test c.args.self.now.1 keys c.args.levels.now.test
