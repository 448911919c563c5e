-- The texts of the generated sets.
use Rattle.std.specs.Prelude.{ℕ, ◌*◌, ◌==◌, List, [], ◌∷◌, ◌++◌, codes, decimal, if◌then◌else◌}
use Rattle.std.specs.List.{flat_map, range_with_len}

-- a line of a template and its LF: `K` stands for a number, and `Q` for four times the number
abbrev pub filled : (number fourfold : List ℕ) → List ℕ → List ℕ
filled number fourfold line =
    flat_map (λ byte. if byte == 75 then number else (if byte == 81 then fourfold else byte ∷ [])) line ++ 10 ∷ []

-- the lines of a template for the number k, in decimal
abbrev pub lines_for : ℕ → List (List ℕ) → List ℕ
lines_for k template = flat_map (filled (decimal k) (decimal (4 * k))) template

-- how a set begins
abbrev pub head_template : List (List ℕ)
head_template =
    codes "set genK;"
    ∷ codes "period 50 ms;"
    ∷ codes "type sw = { off, on };"
    ∷ []

-- the items for a number
abbrev pub items_template : List (List ℕ)
items_template =
    codes "mon mK : 0..1000 init 0;"
    ∷ codes "con cK : sw init off;"
    ∷ codes "input iK : 0..250 init 0;"
    ∷ codes "output oK : sw init off;"
    ∷ codes "sof var sK : 0..3 init 0;"
    ∷ codes "req held hK (mK >= Q, 100 ms);"
    ∷ codes "in normal iK {"
    ∷ codes "  columns true;"
    ∷ codes "  row true : mK div 4;"
    ∷ codes "}"
    ∷ codes "req normal cK {"
    ∷ codes "  columns true;"
    ∷ codes "  row hK : on;"
    ∷ codes "  row not hK : off;"
    ∷ codes "}"
    ∷ codes "sof normal sK {"
    ∷ codes "  columns true;"
    ∷ codes "  row iK < K : 0;"
    ∷ codes "  row iK >= K and prev(sK) < 3 : prev(sK) + 1;"
    ∷ codes "  row iK >= K and prev(sK) = 3 : 3;"
    ∷ codes "}"
    ∷ codes "sof normal oK {"
    ∷ codes "  columns true;"
    ∷ codes "  row sK = 3 : on;"
    ∷ codes "  row sK < 3 : off;"
    ∷ codes "}"
    ∷ codes "out normal cK {"
    ∷ codes "  columns true;"
    ∷ codes "  row true : oK;"
    ∷ codes "}"
    ∷ codes "block aK {"
    ∷ codes "  takes hK, sK;"
    ∷ codes "  shows tK : sK = 0 and age(hK) = -1 or sK >= 1 and age(hK) = 50 * sK - 50;"
    ∷ codes "}"
    ∷ codes "block bK {"
    ∷ codes "  takes cK, oK;"
    ∷ codes "  uses tK;"
    ∷ codes "  goal cK;"
    ∷ codes "}"
    ∷ []

-- the text of the generated set for n: how it begins, and the items for each number from 1 to n
abbrev pub generated : ℕ → List ℕ
generated n = lines_for n head_template ++ flat_map (λ k. lines_for k items_template) (range_with_len 1 n)
