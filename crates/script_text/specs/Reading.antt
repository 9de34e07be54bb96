-- What a function that reads a line, or a part of it, answers.
use Rattle.std.specs.Prelude.{◌≡◌, Option, None, Some, Result, Ok, Err}
use Rattle.script_text.specs.declared.faults.LineFault.{LineFault}
use Rattle.script_text.specs.declared.faults.LineFault.TheVariants.{Bad, Mem}

-- where it is bad there is nothing to read; without memory nothing is said
abbrev pub Fails : {Y : Type 0} → LineFault → Option Y → Type 0
Fails Bad expected = expected ≡ None
Fails Mem expected = Unit {0}

-- what is answered, seen by a function, is what is to be read, unless there was no memory
abbrev pub Gives : {X Y : Type 0} → (X → Y) → Result X LineFault → Option Y → Type 0
Gives view (Ok x) expected = expected ≡ Some (view x)
Gives view (Err fault) expected = Fails fault expected

-- the same of a function that changes a value to this one
abbrev pub IsDone : {Y : Type 0} → Result (Unit {0}) LineFault → Y → Option Y → Type 0
IsDone (Ok x) new expected = expected ≡ Some new
IsDone (Err fault) new expected = Fails fault expected

infixl 10 ◌>>=◌
abbrev pub ◌>>=◌ : {A B : Type 0} → Option A → (A → Option B) → Option B
(Some x) >>= f = f x
None >>= f = None
