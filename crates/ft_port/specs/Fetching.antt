-- What a fetch answers, and why.
use Rattle.std.specs.Prelude.{◌≡◌, ℕ, ◌<◌, ◌≤◌, List, length, Option, Some}
use Rattle.ft_port.specs.Causes.{one_more}
use Rattle.ft_port.specs.Reads.{Read, given, HasEnded, HasFailed}
use Rattle.ft_port.specs.declared.fetching.FetchError.{FetchError}
use Rattle.ft_port.specs.declared.fetching.FetchError.TheVariants.{Failed, TooLong, NoMemory}

-- the text is what the reads gave up to the file's end, and is no longer than the limit; a told file holds nothing else
pub record IsFile (content : Option (List ℕ)) (reads : List Read) (limit : ℕ) (text : List ℕ) : Type 0 where
  pub given : text ≡ given reads
  pub ended : HasEnded reads
  pub short : length text ≤ limit
  pub whole : (file : List ℕ) → content ≡ Some file → text ≡ file

-- reads came beyond the limit and gave more bytes in a row, and the told file is so long
pub record IsTooLong (content : Option (List ℕ)) (reads : List Read) (limit reach : ℕ) : Type 0 where
  pub far : limit < reach
  pub given : limit < length (given reads)
  pub longer : (file : List ℕ) → content ≡ Some file → limit < length file

-- one read failed, and none came after it
pub record HasReadFault (reads : List Read) (faults_before faults_now : ℕ) : Type 0 where
  pub once : faults_now ≡ one_more faults_before
  pub last : HasFailed reads

-- why a fetch gave no text; want of memory is free, but isn't told of a read that failed
abbrev pub HasFetchCause : Option (List ℕ) → List Read → (limit faults_before faults_now reach : ℕ) → FetchError → Type 0
HasFetchCause content reads limit faults_before faults_now reach Failed = HasReadFault reads faults_before faults_now
HasFetchCause content reads limit faults_before faults_now reach TooLong = IsTooLong content reads limit reach
    × (faults_now ≡ faults_before)
HasFetchCause content reads limit faults_before faults_now reach NoMemory = faults_now ≡ faults_before
