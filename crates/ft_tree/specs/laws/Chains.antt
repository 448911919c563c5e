-- Each test of a chain holds where the chain does.
use Rattle.std.proofs.Common.{◌≡◌, ◌&&◌, Bool, true}
use Rattle.std.proofs.lemmas.Bool.{and_parts}

pub three-hold : (a b c : Bool) → (a && b && c) ≡ true → (a ≡ true) × (b ≡ true) × (c ≡ true)
three-hold a b c h =
    let (two, third) = and_parts (a && b) c h in
    let (first, second) = and_parts a b two in
    (first, second, third)

pub four-hold : (a b c d : Bool) → (a && b && c && d) ≡ true → (a ≡ true) × (b ≡ true) × (c ≡ true) × (d ≡ true)
four-hold a b c d h =
    let (before, fourth) = and_parts (a && b && c) d h in
    let (first, second, third) = three-hold a b c before in
    (first, second, third, fourth)

pub five-hold : (a b c d e : Bool) → (a && b && c && d && e) ≡ true → (a ≡ true) × (b ≡ true) × (c ≡ true) × (d ≡ true) × (e ≡ true)
five-hold a b c d e h =
    let (before, fifth) = and_parts (a && b && c && d) e h in
    let (first, second, third, fourth) = four-hold a b c d before in
    (first, second, third, fourth, fifth)
