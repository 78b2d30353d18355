-- The names of lines in a board text, and the text for the masks of a ROM port. (Defined by
-- Fethsaim, not by Intel.)
use Rattle.std.specs.Prelude.{ℕ, ◌+◌, ◌*◌, ◌-◌, ◌&&◌, not, List, [], ◌∷◌, ◌++◌, length, Option, Some, None, nat_lt, ◌==◌, if◌then◌else◌, codes, take, drop}
use Rattle.std.specs.List.{position_or_len, before_first, after_first}
use Rattle.std.specs.Str.{bytes_eq}
use Rattle.std.specs.Fmt.{decimal}
use Rattle.std.specs.Char.{is_ascii_digit}
use Rattle.mcs_nibble.specs.declared.lines.LineMask.{LineMask}
use Rattle.mcs_nibble.specs.Ports.{mask_at, mask_character, mask_of}
use Rattle.mcs_model.specs.declared.board.Line.{Line}
use Rattle.mcs_model.specs.declared.board.Line.TheVariants.{Rom, Ram, Chain}
use Rattle.mcs_model.specs.declared.limits.TheConstants.{ROMS, BANKS, BANK_CHIPS, CHAINS, CHAIN_BITS}
use Rattle.mcs_model.specs.Options.{◌>>=◌}

-- ---- numbers

abbrev pub below_or_none : ℕ → ℕ → Option ℕ
below_or_none limit n = if nat_lt n limit then Some n else None

-- The number that one or two decimal digits spell. None if the text has another form, or if the
-- number has a leading zero or is not below `limit`. Every number in a line name has at most two
-- digits.
abbrev pub number_below : ℕ → List ℕ → Option ℕ
number_below limit (d ∷ []) = if is_ascii_digit d then below_or_none limit (d - 48) else None
number_below limit (t ∷ d ∷ []) =
    if (is_ascii_digit t && is_ascii_digit d) && not (t == 48)
    then below_or_none limit (10 * (t - 48) + (d - 48)) else None
number_below limit text = None

-- ---- line names: `romC.K`, `ramB.C.K`, `chainN.I`

-- the text after a prefix, or none if the text does not begin with the prefix
abbrev pub text_after_prefix : List ℕ → List ℕ → Option (List ℕ)
text_after_prefix word text =
    if bytes_eq (take (length word) text) word then Some (drop (length word) text) else None

-- the texts before and after the first dot, or none if there is no dot
abbrev pub texts_around_dot : List ℕ → Option (List ℕ × List ℕ)
texts_around_dot text =
    if nat_lt (position_or_len (λ b. b == 46) text) (length text)
    then Some (before_first (λ b. b == 46) text, after_first (λ b. b == 46) text) else None

-- the line whose name is `rom` followed by the given text, or none if this is not a line name
abbrev pub rom_line_named : List ℕ → Option Line
rom_line_named text =
    texts_around_dot text >>= (λ (p : List ℕ × List ℕ).
    number_below ROMS p.0 >>= (λ chip.
    number_below 4 p.1 >>= (λ k. Some (Rom chip k))))

-- the line whose name is `ram` followed by the given text, or none if this is not a line name
abbrev pub ram_line_named : List ℕ → Option Line
ram_line_named text =
    texts_around_dot text >>= (λ (p : List ℕ × List ℕ).
    texts_around_dot p.1 >>= (λ (q : List ℕ × List ℕ).
    number_below BANKS p.0 >>= (λ bank.
    number_below BANK_CHIPS q.0 >>= (λ chip.
    number_below 4 q.1 >>= (λ k. Some (Ram bank chip k))))))

-- the line whose name is `chain` followed by the given text, or none if this is not a line name
abbrev pub chain_line_named : List ℕ → Option Line
chain_line_named text =
    texts_around_dot text >>= (λ (p : List ℕ × List ℕ).
    number_below CHAINS p.0 >>= (λ n.
    number_below CHAIN_BITS p.1 >>= (λ i. Some (Chain n i))))

-- the line with the given name, or none if the text is not a line name
abbrev pub line_named : List ℕ → Option Line
line_named text =
    elim (text_after_prefix (codes "rom") text) [
      | Some rest ↦ rom_line_named rest
      | None ↦ elim (text_after_prefix (codes "ram") text) [
        | Some rest ↦ ram_line_named rest
        | None ↦ text_after_prefix (codes "chain") text >>= chain_line_named
      ]
    ]

-- the name of a line
abbrev pub line_name : Line → List ℕ
line_name (Rom chip k) = codes "rom" ++ (decimal chip ++ (codes "." ++ decimal k))
line_name (Ram bank chip k) =
    codes "ram" ++ (decimal bank ++ (codes "." ++ (decimal chip ++ (codes "." ++ decimal k))))
line_name (Chain n i) = codes "chain" ++ (decimal n ++ (codes "." ++ decimal i))

-- ---- ports: four characters, line 3 first

-- the masks in the text of a port, in the order from line 0 to line 3, or none if the text is not
-- valid
abbrev pub masks_named : List ℕ → Option (List LineMask)
masks_named (c3 ∷ c2 ∷ c1 ∷ c0 ∷ []) =
    mask_of c0 >>= (λ m0.
    mask_of c1 >>= (λ m1.
    mask_of c2 >>= (λ m2.
    mask_of c3 >>= (λ m3. Some (m0 ∷ m1 ∷ m2 ∷ m3 ∷ [])))))
masks_named text = None

-- The text of a port. The masks are in the order from line 0 to line 3, and the characters in the
-- order from line 3 to line 0.
abbrev pub port_text : List LineMask → List ℕ
port_text masks =
    mask_character (mask_at masks 3) ∷ mask_character (mask_at masks 2)
    ∷ mask_character (mask_at masks 1) ∷ mask_character (mask_at masks 0) ∷ []
