use Rattle.std.proofs.Common.{◌≡◌, ◌∙◌, inl, inr}
use Rattle.std.specs.declared.io.ErrorKind.TheVariants.{NotADirectory, NotFound}
use Rattle.std.specs.IoError.{error_kind}
use Rattle.mcs_host.proofs.streams.regular_file.Goals as goal

pub returns-in_default : goal.returns-in_default
returns-in_default c =
    let e = c.in-Err.error in
    let not_found = λ (h : error_kind e ≡ NotFound). c.in_default.not-NotFound (c.kind.ensures ∙ h) in
    let no_folder = λ (h : error_kind e ≡ NotADirectory). c.in_default.not-NotADirectory (c.kind.ensures ∙ h) in
    rw c.in-Err.is (record {
      file = tt;
      folder = tt;
      other = tt;
      absent = λ h. elim h [ inl a ↦ absurd (not_found a) | inr b ↦ absurd (no_folder b) ];
      refused = λ _. c.from.ensures;
    })
