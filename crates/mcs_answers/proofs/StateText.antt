-- If all parts of the answer to `state` are written in order, the text is the whole answer.
use Rattle.std.proofs.Common.{◌≡◌, ℕ, List, [], ◌∷◌, ◌++◌, codes, map, ap, ◌∙◌}
use Rattle.std.specs.List.{flat_map, range_with_len}
use Rattle.mcs_model.specs.declared.limits.TheConstants.{BANKS, ROMS}
use Rattle.mcs_model.specs.BenchState.{BenchState}
use Rattle.mcs_model.specs.Boards.{chain_count}
use Rattle.mcs_model.specs.QueryText.{address_text, bank_items, chain_item, two_hex_digits, key_items, lamps_text, comma_list, ram_items, registers_text, seq_text, state_text, watch_text}
use Rattle.mcs_model.specs.QueryText.{rom_items}

pub state_text_from_parts : (s : BenchState) (n1 n2 n3 n4 n5 n6 n7 n8 n9 n10 n11 n12 n13 n14 n15 : List ℕ)
    → n1 ≡ codes "state " ++ seq_text s.seq
    → n2 ≡ n1 ++ codes " "
    → n3 ≡ n2 ++ registers_text s.processor s.bus.test
    → n4 ≡ n3 ++ codes " ret " ++ comma_list (map address_text s.processor.ret)
    → n5 ≡ n4 ++ codes " src " ++ two_hex_digits s.bus.rom_src
    → n6 ≡ n5 ++ codes " banks " ++ comma_list (flat_map (bank_items s.bus) (range_with_len 0 BANKS))
    → n7 ≡ n6 ++ codes " roms " ++ comma_list (flat_map (rom_items s.bus) (range_with_len 0 ROMS))
    → n8 ≡ n7 ++ codes " rams " ++ comma_list (flat_map (ram_items s.bus) (range_with_len 0 BANKS))
    → n9 ≡ n8 ++ codes " chains " ++ comma_list (map (chain_item s.bus) (range_with_len 0 (chain_count s.bus.board)))
    → n10 ≡ n9 ++ codes " keys " ++ comma_list (key_items s.bus)
    → n11 ≡ n10 ++ codes " "
    → n12 ≡ n11 ++ lamps_text s.bus
    → n13 ≡ n12 ++ codes " breaks " ++ comma_list (map address_text s.breakpoints)
    → n14 ≡ n13 ++ codes " watches " ++ comma_list (map watch_text s.watches)
    → n15 ≡ n14 ++ 10 ∷ []
    → n15 ≡ state_text s ++ 10 ∷ []
state_text_from_parts s n1 n2 n3 n4 n5 n6 n7 n8 n9 n10 n11 n12 n13 n14 n15 e1 e2 e3 e4 e5 e6 e7 e8 e9 e10 e11 e12 e13 e14 e15 =
    let h1 : n1 ≡ codes "state " ++ seq_text s.seq = e1 in
    let h2 = e2 ∙ ap (λ (v : List ℕ). v ++ codes " ") h1 in
    let h3 = e3 ∙ ap (λ (v : List ℕ). v ++ registers_text s.processor s.bus.test) h2 in
    let h4 = e4 ∙ ap (λ (v : List ℕ). v ++ codes " ret " ++ comma_list (map address_text s.processor.ret)) h3 in
    let h5 = e5 ∙ ap (λ (v : List ℕ). v ++ codes " src " ++ two_hex_digits s.bus.rom_src) h4 in
    let h6 = e6 ∙ ap (λ (v : List ℕ). v ++ codes " banks " ++ comma_list (flat_map (bank_items s.bus) (range_with_len 0 BANKS))) h5 in
    let h7 = e7 ∙ ap (λ (v : List ℕ). v ++ codes " roms " ++ comma_list (flat_map (rom_items s.bus) (range_with_len 0 ROMS))) h6 in
    let h8 = e8 ∙ ap (λ (v : List ℕ). v ++ codes " rams " ++ comma_list (flat_map (ram_items s.bus) (range_with_len 0 BANKS))) h7 in
    let h9 = e9 ∙ ap (λ (v : List ℕ). v ++ codes " chains " ++ comma_list (map (chain_item s.bus) (range_with_len 0 (chain_count s.bus.board)))) h8 in
    let h10 = e10 ∙ ap (λ (v : List ℕ). v ++ codes " keys " ++ comma_list (key_items s.bus)) h9 in
    let h11 = e11 ∙ ap (λ (v : List ℕ). v ++ codes " ") h10 in
    let h12 = e12 ∙ ap (λ (v : List ℕ). v ++ lamps_text s.bus) h11 in
    let h13 = e13 ∙ ap (λ (v : List ℕ). v ++ codes " breaks " ++ comma_list (map address_text s.breakpoints)) h12 in
    let h14 = e14 ∙ ap (λ (v : List ℕ). v ++ codes " watches " ++ comma_list (map watch_text s.watches)) h13 in
    e15 ∙ ap (λ (v : List ℕ). v ++ 10 ∷ []) h14
