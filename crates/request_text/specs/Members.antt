-- The text of a member, by its parts.
use Rattle.std.specs.Prelude.{ℕ, List, [], ◌∷◌}
use Rattle.std.specs.List.{concat, flat_map}
use Rattle.text_parts.specs.Parts.{part_text}
use Rattle.request_text.specs.declared.members.Member.{Member}

-- what stands before, the name, the value, and what stands after
abbrev pub member_seen : Member → List ℕ
member_seen m = concat (m.before.now ∷ m.name.now ∷ part_text m.value ∷ m.after.now ∷ [])

-- members one after another
abbrev pub members_seen : List Member → List ℕ
members_seen members = flat_map member_seen members
