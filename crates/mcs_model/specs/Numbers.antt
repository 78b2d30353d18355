-- The numbers of the machine (nibbles are 0 to 15, bytes 0 to 255, addresses 0 to 4095), and the
-- pages of addresses.
use Rattle.std.specs.Prelude.{ℕ, ◌+◌, ◌*◌, ◌/◌, ◌%◌}

-- the page of an address: its upper four bits, which select the ROM (MCS-4 Users Manual, 4001
-- section)
abbrev pub page_of : ℕ → ℕ
page_of address = address % 4096 / 256

-- the address of word `w` on page `p` (MCS-4 Users Manual, 4001 section)
abbrev pub word_on_page : ℕ → ℕ → ℕ
word_on_page p w = 256 * p + w
