-- What a container that was written is read as, as a law.
use Rattle.std.specs.Prelude.{ℕ, ◌≡◌, List, [], ◌++◌, None, Some}
use Rattle.block_record.specs.Texts.{IsBytes, IsTypeName}
use Rattle.dbin_file.specs.Messages.{AreMessages}
use Rattle.dbin_file.specs.Contents.{contents, container_text}
use Rattle.dbin_file.specs.Reader.{state_after, end_fault}

-- a text is read as this type and these messages, with nothing after them and no fault
pub record IsReadAs (text block_type : List ℕ) (messages : List (List ℕ)) : Type 0 where
  pub type_is : (contents text).block_type ≡ Some block_type
  pub messages_are : (contents text).messages ≡ messages
  pub rest : (contents text).rest ≡ []
  pub fault : (contents text).fault ≡ None

-- a container of a type and of messages, none of them too long, is read as these
abbrev pub ContainerIsRead : Type 0
ContainerIsRead = (block_type : List ℕ) (messages : List (List ℕ)) → IsTypeName block_type → AreMessages messages → IsReadAs (container_text block_type messages) block_type messages

-- a text is the container of this type and of the messages that are read in it, and what follows them
pub record IsSpelled (text block_type : List ℕ) : Type 0 where
  pub named : IsTypeName block_type
  pub small : AreMessages (contents text).messages
  pub text_is : text ≡ container_text block_type (contents text).messages ++ (contents text).rest

-- a text of bytes whose header is whole is the container of its messages, and what follows them
abbrev pub ReadIsSpelled : Type 0
ReadIsSpelled = (text block_type : List ℕ) → IsBytes text → (contents text).block_type ≡ Some block_type → IsSpelled text block_type

-- a text is the container of its type and of the messages that are read in it, and nothing follows them
pub record IsContainer (text : List ℕ) : Type 0 where
  pub block_type : List ℕ
  pub type_is : (contents text).block_type ≡ Some block_type
  pub named : IsTypeName block_type
  pub small : AreMessages (contents text).messages
  pub text_is : text ≡ container_text block_type (contents text).messages

-- a text of bytes at whose end a reader has no fault is a container
abbrev pub WholeIsContainer : Type 0
WholeIsContainer = (text : List ℕ) → IsBytes text → end_fault (state_after text) ≡ None → IsContainer text
