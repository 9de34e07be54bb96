-- A name right in a folder is one of that folder.
use Rattle.std.proofs.Common.{◌≡◌, ℕ, Bool, true, false, not, ◌&&◌, List, [], ◌∷◌, refl}
use Rattle.std.proofs.Math.Seq.{take-append_seam, drop-append_seam}
use Rattle.std.specs.Prelude.{IsTrue, codes}
use Rattle.std.specs.List.{list_any}
use Rattle.std.specs.Str.{bytes_eq}
use Rattle.outer_world.specs.Files.{is_in}
use Rattle.outer_world.proofs.public.FileFacts.{same_name}
use Rattle.folder_shelf.specs.Names.{is_part, is_slash, joined}

last_test : (a b c d : Bool) → IsTrue (not a && not b && not c && not d) → d ≡ false
last_test true b c d h = cc
last_test false true c d h = cc
last_test false false true d h = cc
last_test false false false true h = cc
last_test false false false false h = refl

-- a part has no '/'
pub no_slash : (text : List ℕ) → IsTrue (is_part text) → list_any is_slash text ≡ false
no_slash text h = last_test (bytes_eq text []) (bytes_eq text (codes ".")) (bytes_eq text (codes "..")) (list_any is_slash text) h

-- a folder, a '/' and a part are the name of a file of that folder
pub is_in-joined : (folder last : List ℕ) → IsTrue (is_part last) → IsTrue (is_in folder (joined folder last))
is_in-joined folder last h =
    rw (take-append_seam folder (47 ∷ last), drop-append_seam folder (47 ∷ last), same_name folder, no_slash last h) refl
