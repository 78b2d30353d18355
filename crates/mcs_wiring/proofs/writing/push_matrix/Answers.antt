use Rattle.std.proofs.Common.{◌∙◌, ◌++◌, codes, string_bytes, ap}
use Rattle.std.specs.List.{join_by}
use Rattle.mcs_wiring.specs.BoardText.{quoted_name}
use Rattle.mcs_wiring.proofs.PartTexts.{matrix_text_from_pieces}
use Rattle.mcs_wiring.proofs.writing.push_matrix.Goals as goal

pub returns : goal.returns
returns c =
    let names = c.in_ok-push_names.ensures ∙ ap (λ lines. string_bytes c.write.new.self ++ join_by quoted_name (codes ", ") lines) c.as_slice.ensures.value in
    matrix_text_from_pieces _ _ _ _ c.args.keys.now c.in_ok-write.ensures.bytes names c.in_ok-push_str.ensures.bytes
