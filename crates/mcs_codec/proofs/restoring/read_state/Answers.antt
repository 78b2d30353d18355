use Rattle.std.proofs.Common.{◌≡◌, ◌≤◌, ◌∙◌, List, All, ap, subst, sym}
use Rattle.std.proofs.lemmas.List.Elements.{All-from_recursion}
use Rattle.mcs_model.specs.declared.board.BoardParts.{BoardParts}
use Rattle.mcs_model.specs.declared.board.ChainPart.{ChainPart}
use Rattle.mcs_model.specs.declared.limits.TheConstants.{CHAIN_CHIPS}
use Rattle.mcs_codec.proofs.BoardLengths.{board_chips_within_limit}
use Rattle.mcs_codec.proofs.restoring.read_state.Goals as goal

pub read_chains-requires-clause-short : goal.read_chains-requires-clause-short
read_chains-requires-clause-short c =
    let is : c.as_slice.result.now ≡ c.in_ok-version.board.chains.items = c.as_slice.ensures.value ∙ ap (λ (b : BoardParts). b.chains.items) c.parts.ensures.same in
    subst (λ (chains : List ChainPart). All (λ chain. chain.chips ≤ CHAIN_CHIPS) chains) (sym is) (All-from_recursion _ _ (board_chips_within_limit c.in_ok-version.board c.parts.ensures.valid))
