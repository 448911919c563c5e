-- What a memory is told at a scan.
use Rattle.std.specs.Prelude.{◌≡◌, Bool, ⊤, [], ◌∷◌, ◌++◌}
use Rattle.ft_core.specs.declared.tables.Memory.{Memory}
use Rattle.ft_core.specs.declared.tables.Memory.TheVariants.{Held, Hyst}
use Rattle.ft_mean.specs.meaning.Value.{View, truth, value}
use Rattle.ft_memo.specs.Timer.{held_after}
use Rattle.ft_memo.specs.Band.{hyst_after}
use Rattle.ft_scan.specs.declared.frame.Running.{Running}
use Rattle.ft_scan.specs.declared.frame.Running.TheVariants.{Timer, Band}
use Rattle.ft_scan.specs.declared.stepping.Sample.{Sample}
use Rattle.ft_scan.specs.declared.stepping.Sample.TheVariants.{Truth, Number}

-- the truth of the condition of a timer, or the number of the term of a band
abbrev pub sample_of : View → Memory → Sample
sample_of V (Held name s c hold) = Truth (truth V c)
sample_of V (Hyst name s e lo hi start) = Number (value V e)

-- a timer is told truths, and a band numbers
abbrev pub CanHear : Running → Sample → Type 0
CanHear (Timer t) (Truth b) = ⊤
CanHear (Band t) (Number z) = ⊤
CanHear _ _ = ⊥

-- a running memory goes on by one scan with what it is told, and says this
abbrev pub Hears : Running → Sample → Running → (says : Bool) → Type 0
Hears (Timer t) (Truth b) (Timer u) says =
    (u.hold ≡ t.hold) × (u.period ≡ t.period) × (u.truths ≡ t.truths ++ b ∷ []) × (says ≡ held_after u.hold u.period u.truths)
Hears (Band t) (Number z) (Band u) says =
    (u.lo ≡ t.lo) × (u.hi ≡ t.hi) × (u.start ≡ t.start) × (u.numbers ≡ t.numbers ++ z ∷ [])
    × (says ≡ hyst_after u.lo u.hi u.start u.numbers)
Hears _ _ _ says = ⊥
