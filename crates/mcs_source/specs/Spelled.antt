-- The condition that two words encode an instruction.
use Rattle.std.specs.Prelude.{◌≡◌, take, ℕ, ◌<◌, [], ◌∷◌}
use Rattle.mcs_model.specs.declared.op.Op.{Op}
use Rattle.mcs_model.specs.Table.{word_count_of}
use Rattle.mcs_model.specs.declared.op.Op.TheVariants.{Jcn, Fim, Src, Fin, Jin, Jun, Jms, Inc, Isz, Add, Sub, Ld, Xch, Bbl, Ldm}
use Rattle.mcs_source.specs.Spelling.{spelling}

-- Holds if the operands of an instruction are in range.
abbrev pub HasOperandsInRange : Op → Type 0
HasOperandsInRange (Jcn c b) = (c < 16) × (b < 256)
HasOperandsInRange (Fim p b) = (p < 8) × (b < 256)
HasOperandsInRange (Jun h b) = (h < 16) × (b < 256)
HasOperandsInRange (Jms h b) = (h < 16) × (b < 256)
HasOperandsInRange (Isz r b) = (r < 16) × (b < 256)
HasOperandsInRange (Src p) = p < 8
HasOperandsInRange (Fin p) = p < 8
HasOperandsInRange (Jin p) = p < 8
HasOperandsInRange (Inc r) = r < 16
HasOperandsInRange (Add r) = r < 16
HasOperandsInRange (Sub r) = r < 16
HasOperandsInRange (Ld r) = r < 16
HasOperandsInRange (Xch r) = r < 16
HasOperandsInRange (Bbl r) = r < 16
HasOperandsInRange (Ldm r) = r < 16
HasOperandsInRange o = Unit {0}

-- Holds if two words encode an instruction: its operands are in range, and its encoding is both
-- words, or only the first word if the instruction has one word.
abbrev pub IsEncodedBy : ℕ → ℕ → Op → Type 0
IsEncodedBy first second o = HasOperandsInRange o × (spelling o ≡ take (word_count_of o) (first ∷ second ∷ []))
