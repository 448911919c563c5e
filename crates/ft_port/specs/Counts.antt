-- Names with how far the reads of each came, how many of them failed, and what they were. The first entry of a name counts.
use Rattle.std.specs.Prelude.{◌≡◌, ℕ, Bool, List, [], map}
use Rattle.std.specs.List.{find}
use Rattle.std.specs.Option.{option_map, unwrap_or}
use Rattle.std.specs.Str.{bytes_eq}
use Rattle.ft_port.specs.declared.entry.Entry.{Entry}
use Rattle.ft_port.specs.Reads.{Read}

abbrev pub names_of : List Entry → List (List ℕ)
names_of counts = map (λ entry. entry.name) counts

abbrev pub is_of : List ℕ → Entry → Bool
is_of name entry = bytes_eq entry.name name

abbrev pub reach_by : List Entry → List ℕ → ℕ
reach_by counts name = unwrap_or (option_map (λ entry. entry.reach) (find (is_of name) counts)) 0

abbrev pub faults_by : List Entry → List ℕ → ℕ
faults_by counts name = unwrap_or (option_map (λ entry. entry.faults) (find (is_of name) counts)) 0

abbrev pub reads_by : List Entry → List ℕ → List Read
reads_by counts name = unwrap_or (option_map (λ entry. entry.reads.list) (find (is_of name) counts)) []

-- a name before its first read
abbrev pub unread : List ℕ → Entry
unread name = record { name = name; reach = 0; faults = 0; reads = record { of = record {}; list = [] } }

-- the counts of these names before the first read
pub record AreUnread (new_names : List (List ℕ)) (counts : List Entry) : Type 0 where
  pub names : names_of counts ≡ new_names
  pub reach : (name : List ℕ) → reach_by counts name ≡ 0
  pub faults : (name : List ℕ) → faults_by counts name ≡ 0
  pub reads : (name : List ℕ) → reads_by counts name ≡ []
