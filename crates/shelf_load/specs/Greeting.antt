-- What is answered where a relay is told the type of a file's blocks.
use Rattle.std.specs.Prelude.{ℕ, ◌≡◌, ◌≢◌, IsTrue, List, Option, None, Some, ⊤, Result, Ok, Err}
use Rattle.std.specs.Option.{option_map}
use Rattle.block_record.specs.declared.blocks.Kind.{Kind}
use Rattle.block_record.specs.declared.blocks.Version.TheVariants.{V3}
use Rattle.relay_model.specs.Worlds.{World}
use Rattle.block_relay.specs.Chronicle.{may_greet}
use Rattle.file_reader.specs.Reading.{FileState}
use Rattle.one_block.specs.declared.faults.StoreFault.TheVariants as store
use Rattle.shelf_check.specs.Steps.{end_of}
use Rattle.shelf_check.specs.declared.faults.LoadFault.{LoadFault}
use Rattle.shelf_check.specs.declared.faults.LoadFault.TheVariants as fault
use Rattle.shelf_load.specs.Loading.{first_kind}

-- the kind of blocks of a type, which are of version 3.0
abbrev pub kind_of : List ℕ → Kind
kind_of block_type = record { version = V3; block_type = block_type }

-- blocks of this type may be taken, and where no kind is kept it is theirs
pub record IsGreeted (old new : World) (block_type : List ℕ) : Type 0 where
  pub may : IsTrue (may_greet old.kind (kind_of block_type))
  pub world : new ≡ record old { kind = first_kind old.kind (kind_of block_type) }

-- the kept kind has another type
pub record IsOtherType (old : World) (block_type held other : List ℕ) : Type 0 where
  pub held_is : option_map (λ k. k.block_type) old.kind ≡ Some held
  pub other_is : other ≡ block_type
  pub differs : held ≢ other

-- why a type was not told
abbrev pub GreetRefused : World → List ℕ → LoadFault → Type 0
GreetRefused old block_type (fault.Store store.ShelfFault) = ⊥
GreetRefused old block_type (fault.Store (store.ShelfBad name at)) = ⊥
GreetRefused old block_type (fault.Store (store.Missing name)) = ⊥
GreetRefused old block_type (fault.Store (store.StoredOther kept read)) = ⊥
GreetRefused old block_type (fault.Store (store.NameClash held other)) = ⊥
GreetRefused old block_type (fault.Store store.Mem) = ⊤
GreetRefused old block_type (fault.KindClash held other) = IsOtherType old block_type held other
GreetRefused old block_type (fault.HistoryFull len need) = ⊥

-- what is answered where a type is told; at a refusal nothing has changed
abbrev pub GreetAnswers : World → World → List ℕ → Result Unit LoadFault → Type 0
GreetAnswers old new block_type (Ok u) = IsGreeted old new block_type
GreetAnswers old new block_type (Err refused) = (new ≡ old) × GreetRefused old block_type refused

-- a file without a whole header is bad at its end, and else it has a type, which is not told
abbrev pub HeadRefused : World → FileState → Option (List ℕ) → LoadFault → Type 0
HeadRefused old r None (fault.Store store.ShelfFault) = ⊥
HeadRefused old r None (fault.Store (store.ShelfBad name at)) = (name ≡ r.name) × (at ≡ end_of r)
HeadRefused old r None (fault.Store (store.Missing name)) = ⊥
HeadRefused old r None (fault.Store (store.StoredOther kept read)) = ⊥
HeadRefused old r None (fault.Store (store.NameClash held other)) = ⊥
HeadRefused old r None (fault.Store store.Mem) = ⊤
HeadRefused old r None (fault.KindClash held other) = ⊥
HeadRefused old r None (fault.HistoryFull len need) = ⊥
HeadRefused old r (Some block_type) refused = GreetRefused old block_type refused

-- the type of a file was read, and told
pub record IsHeadTold (old new : World) (found : Option (List ℕ)) : Type 0 where
  pub block_type : List ℕ
  pub found_is : found ≡ Some block_type
  pub greeted : IsGreeted old new block_type

-- what is answered where the type of a file is told
abbrev pub HeadAnswers : World → World → FileState → Result Unit LoadFault → Type 0
HeadAnswers old new r (Ok u) = IsHeadTold old new r.reader.block_type
HeadAnswers old new r (Err refused) = HeadRefused old r r.reader.block_type refused
