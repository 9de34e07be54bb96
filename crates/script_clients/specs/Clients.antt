-- The clients of a replay as a map from their names.
use Rattle.std.specs.Prelude.{ℕ, not, Bool, List, [], ◌∷◌, if◌then◌else◌, Option, None, Some, filter}
use Rattle.std.specs.List.{position}
use Rattle.std.specs.Str.{bytes_eq}
use Rattle.client_stream.specs.Sessions.{State}
use Rattle.script_clients.specs.declared.named.Named.{Named}

-- whether a client has the name
abbrev pub has_name : List ℕ → Named → Bool
has_name name c = bytes_eq c.name name

-- where the first client of a name stands
abbrev pub place_of : List ℕ → List Named → Option ℕ
place_of name clients = position (has_name name) clients

-- the first client of a name: its session, or none where its request was refused
abbrev pub client_of : List ℕ → List Named → Option (Option State)
client_of name [] = None
client_of name (c ∷ clients) = if has_name name c then Some c.client else client_of name clients

-- the clients with this one under the name: in place of the first that has it, or else as the last
abbrev pub with_client : List ℕ → Option State → List Named → List Named
with_client name client [] = record { name = name; client = client } ∷ []
with_client name client (c ∷ clients) =
    if has_name name c then record c { client = client } ∷ clients else c ∷ with_client name client clients

-- the clients without those of a name
abbrev pub without_client : List ℕ → List Named → List Named
without_client name clients = filter (λ c. not (has_name name c)) clients
