use Rattle.std.proofs.Common.{Some, None, ap, ◌∙◌}
use Rattle.mcs_codec.proofs.VersionCodec.{read_version_is_version_of}
use Rattle.mcs_codec.proofs.restoring.version_of.Goals as goal

pub returns-in_err-version : goal.returns-in_err-version
returns-in_err-version c = c.from_residual.ensures ∙ read_version_is_version_of c.args.bytes.now c.version.new.self _ None (c.new.ensures ∙ c.split_at.ensures.back) c.in_err-version.ensures

pub returns : goal.returns
returns c = ap (λ n. Some n) c.number.ensures ∙ read_version_is_version_of c.args.bytes.now _ _ (Some c.in_ok-version.version) (c.new.ensures ∙ c.split_at.ensures.back) c.in_ok-version.ensures
