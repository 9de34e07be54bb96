-- Whose the names of a script are: a reader's or a client's, by their first use.
use Rattle.std.specs.Prelude.{ℕ, ◌++◌, List, [], ◌∷◌, zero, suc, Option, None, Some}
use Rattle.std.specs.List.{position}
use Rattle.std.specs.Option.{option_map}
use Rattle.std.specs.Prelude.{slice_get}
use Rattle.std.specs.Str.{bytes_eq}
use Rattle.script_text.specs.declared.names.Used.{Used}
use Rattle.script_text.specs.declared.names.Role.{Role}
use Rattle.script_text.specs.declared.names.Role.TheVariants as role
use Rattle.script_text.specs.declared.script.Event.{Event}
use Rattle.script_text.specs.declared.script.Event.TheVariants as event
use Rattle.script_text.specs.Reading.{◌>>=◌}

-- where a name stands among those in use
abbrev pub place_of : List ℕ → List Used → Option ℕ
place_of name used = position (λ u. bytes_eq u.name name) used

-- the role of the name at a place
abbrev pub role_at : List Used → Option ℕ → Option Role
role_at used None = None
role_at used (Some place) = option_map (λ u. u.role) (slice_get used place)

-- the names in use, where the one at this place has this role
abbrev pub turned : ℕ → Role → List Used → List Used
turned place r [] = []
turned zero r (u ∷ used) = record u { role = r } ∷ used
turned (suc place) r (u ∷ used) = u ∷ turned place r used

-- the names in use, where this one, which stands at this place or nowhere yet, has this role
abbrev pub with_role : List ℕ → Role → List Used → Option ℕ → List Used
with_role name r used None = used ++ record { name = name; role = r } ∷ []
with_role name r used (Some place) = turned place r used

-- the role of a name after bytes, a line or a death; none where it is a client's
abbrev pub as_reader : Option Role → Option Role
as_reader None = Some role.Reader
as_reader (Some role.Reader) = Some role.Reader
as_reader (Some role.Opened) = None
as_reader (Some role.Dropped) = None

-- after an `open`, which needs a name that is new or dropped
abbrev pub as_opened : Option Role → Option Role
as_opened None = Some role.Opened
as_opened (Some role.Reader) = None
as_opened (Some role.Opened) = None
as_opened (Some role.Dropped) = Some role.Opened

-- after a look or a part, which needs a name that was opened
abbrev pub as_client : Option Role → Option Role
as_client None = None
as_client (Some role.Reader) = None
as_client (Some role.Opened) = Some role.Opened
as_client (Some role.Dropped) = Some role.Dropped

-- after a `drop`, which needs the same
abbrev pub as_dropped : Option Role → Option Role
as_dropped None = None
as_dropped (Some role.Reader) = None
as_dropped (Some role.Opened) = Some role.Dropped
as_dropped (Some role.Dropped) = Some role.Dropped

-- the name of an event
abbrev pub name_in : Event → Option (List ℕ)
name_in (event.Bytes reader bytes) = Some reader
name_in (event.Line reader text) = Some reader
name_in (event.Death reader) = Some reader
name_in (event.Open client request) = Some client
name_in (event.Look client) = Some client
name_in (event.Part client steps) = Some client
name_in (event.Drop client) = Some client
name_in event.Merge = None
name_in event.Close = None

-- the role that the event's name has after it, where it had this one; none where the event doesn't fit
abbrev pub role_after : Event → Option Role → Option Role
role_after (event.Bytes reader bytes) r = as_reader r
role_after (event.Line reader text) r = as_reader r
role_after (event.Death reader) r = as_reader r
role_after (event.Open client request) r = as_opened r
role_after (event.Look client) r = as_client r
role_after (event.Part client steps) r = as_client r
role_after (event.Drop client) r = as_dropped r
role_after event.Merge r = r
role_after event.Close r = r

-- the names in use after an event of this name, which stands at this place or nowhere yet
abbrev pub used_at : Event → List ℕ → List Used → Option ℕ → Option (List Used)
used_at e name used place = role_after e (role_at used place) >>= λ r. Some (with_role name r used place)

abbrev pub used_by : Event → List Used → Option (List ℕ) → Option (List Used)
used_by e used None = Some used
used_by e used (Some name) = used_at e name used (place_of name used)

-- the names in use after an event; none where its name doesn't fit
unfoldable pub used_after : Event → List Used → Option (List Used)
used_after e used = used_by e used (name_in e)
