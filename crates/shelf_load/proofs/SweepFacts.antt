-- What a sweep removes, file by file.
use Rattle.std.proofs.Common.{◌≡◌, inl, inr, ℕ, Bool, true, false, not, cond, ◌&&◌, ◌||◌, List, [], ◌∷◌, ◌++◌, Option, Some, refl, sym, ◌∙◌, ap, subst, IsTrue}
use Rattle.std.specs.Prelude.{codes}
use Rattle.std.specs.Option.{unwrap_or}
use Rattle.std.specs.List.{filter, list_any}
use Rattle.std.specs.Str.{bytes_eq}
use Rattle.std.proofs.lemmas.Bool.{both_ways, false_from_ne_true}
use Rattle.std.proofs.lemmas.List.Folds.{list_any-append}
use Rattle.std.proofs.lemmas.Slice.Eq.{bytes_eq-Decides}
use Rattle.block_record.specs.declared.blocks.Slip.{Slip}
use Rattle.outer_world.specs.Files.{Files, AreInOrder, names_of, comes_before, file_at, without_file, is_in, names_in}
use Rattle.outer_world.proofs.public.FileFacts.{before_other}
use Rattle.relay_model.specs.Worlds.{World}
use Rattle.bundle_model.specs.Members.{Among}
use Rattle.bundle_model.specs.Shedding.{may_sweep}
use Rattle.bundle_model.proofs.public.MemberFacts.{among_all, among_map, among_filter, filter_among}
use Rattle.store_files.specs.Texts.{slips_in}
use Rattle.store_files.proofs.public.TextFacts.{holds_shows}
use Rattle.shelf_load.specs.Owns.{IsOwn}
use Rattle.shelf_load.specs.Sweeps.{may_go, is_swept, swept, swept_of, text_at, IsOnly}
use Rattle.shelf_load.proofs.FilterFacts.{filter_same, filter_whole, filter_twice}

abbrev pub File : Type 0
File = List ℕ × List ℕ

-- a name listed in a folder is that of one file
pub only_of : (folder name : List ℕ) (files : Files) → AreInOrder (names_in folder files) → is_in folder name ≡ true → IsOnly (Some files) name
only_of folder name [] order inside f h same = absurd h
only_of folder name (g ∷ files) order inside f (inl e) same =
    let here : bytes_eq g.0 name ≡ true = subst (λ (x : File). bytes_eq x.0 name ≡ true) (sym e) same in
    rw here (ap (λ (x : File). Some x.1) e)
only_of folder name (g ∷ files) order inside f (inr h) same =
    go (λ o. only_of folder name files o inside f h same) (bytes_eq g.0 name) refl (is_in folder g.0) refl order
  where
    two : f.0 ≡ name
    two = (bytes_eq-Decides f.0 name).0 same

    go : (AreInOrder (names_in folder files) → file_at name files ≡ Some f.1) → (b : Bool) → bytes_eq g.0 name ≡ b → (t : Bool) → is_in folder g.0 ≡ t
        → AreInOrder (cond t (g.0 ∷ names_in folder files) (names_in folder files)) → cond b (Some g.1) (file_at name files) ≡ Some f.1
    go ih false eb true et o = ih o.1
    go ih false eb false et o = ih o
    go ih true eb false et o = absurd (both_ways _ et (ap (is_in folder) ((bytes_eq-Decides g.0 name).0 eb) ∙ inside))
    go ih true eb true et o =
        let one : g.0 ≡ name = (bytes_eq-Decides g.0 name).0 eb in
        let listed : Among (names_in folder files) f.0 = among_filter (is_in folder) (names_of files) f.0 (among_map (λ (x : File). x.0) files f h) (ap (is_in folder) two ∙ inside) in
        let before : comes_before g.0 f.0 ≡ true = among_all (λ later. IsTrue (comes_before g.0 later)) (names_in folder files) o.0 f.0 listed in
        absurd (both_ways _ (before_other g.0 f.0 before) ((bytes_eq-Decides g.0 f.0).1 (one ∙ sym two)))

-- a name in a list in order is none of those before it
pub apart_before : (front rest : List (List ℕ)) (name : List ℕ) → AreInOrder (front ++ name ∷ rest) → list_any (bytes_eq name) front ≡ false
apart_before [] rest name order = refl
apart_before (x ∷ front) rest name order =
    let before : comes_before x name ≡ true = among_all (λ later. IsTrue (comes_before x later)) (front ++ name ∷ rest) order.0 name (later front) in
    let other : bytes_eq name x ≡ false = false_from_ne_true _ (λ t. both_ways _ (before_other x name before) ((bytes_eq-Decides x name).1 (sym ((bytes_eq-Decides name x).0 t)))) in
    rw other (apart_before front rest name order.1)
  where
    later : (xs : List (List ℕ)) → Among (xs ++ name ∷ rest) name
    later [] = inl refl
    later (y ∷ xs) = inr (later xs)

-- a file that passes a test stands in what is filtered by it
pub file_at_filter : (p : File → Bool) (name : List ℕ) (files : Files) → ((f : File) → Among files f → bytes_eq f.0 name ≡ true → p f ≡ true) → file_at name (filter p files) ≡ file_at name files
file_at_filter p name [] keeps = refl
file_at_filter p name (f ∷ files) keeps = go (p f) (bytes_eq f.0 name) refl refl (file_at_filter p name files (λ g h. keeps g (inr h)))
  where
    go : (a b : Bool) → p f ≡ a → bytes_eq f.0 name ≡ b → file_at name (filter p files) ≡ file_at name files → file_at name (cond a (f ∷ filter p files) (filter p files)) ≡ cond b (Some f.1) (file_at name files)
    go true b ea eb ih = rw eb (ap (λ (o : Option (List ℕ)). cond b (Some f.1) o) ih)
    go false false ea eb ih = ih
    go false true ea eb ih = absurd (both_ways _ ea (keeps f (inl refl) eb))

pub and_false : (s : Bool) → not (s && false) ≡ true
and_false true = refl
and_false false = refl

or_false : (m : Bool) → (m || false) ≡ m
or_false true = refl
or_false false = refl

joined : (s n e : Bool) → (not (s && n) && not (s && e)) ≡ not (s && (n || e))
joined false n e = refl
joined true true e = refl
joined true false e = refl

-- nothing is removed of no names
pub swept_none : (w : World) (files : Files) → swept_of w [] files ≡ files
swept_none w files = filter_whole (λ f. not (is_swept w f && false)) files (λ f h. and_false (is_swept w f))

-- some names, and one more
pub swept_more : (w : World) (names : List (List ℕ)) (name : List ℕ) (files : Files) → swept_of w (name ∷ []) (swept_of w names files) ≡ swept_of w (names ++ name ∷ []) files
swept_more w names name files =
    filter_twice (λ f. not (is_swept w f && list_any (bytes_eq f.0) (name ∷ []))) (λ f. not (is_swept w f && list_any (bytes_eq f.0) names)) files
    ∙ filter_same (λ f. not (is_swept w f && list_any (bytes_eq f.0) names) && not (is_swept w f && list_any (bytes_eq f.0) (name ∷ []))) (λ f. not (is_swept w f && list_any (bytes_eq f.0) (names ++ name ∷ []))) files
    (λ f h. joined (is_swept w f) (list_any (bytes_eq f.0) names) (list_any (bytes_eq f.0) (name ∷ []))
    ∙ ap (λ (b : Bool). not (is_swept w f && b)) (sym (list_any-append (bytes_eq f.0) names (name ∷ []))))

-- a file of another name stays
pub text_stays : (w : World) (names : List (List ℕ)) (name : List ℕ) (files : Files) → list_any (bytes_eq name) names ≡ false → file_at name (swept_of w names files) ≡ file_at name files
text_stays w names name files apart = file_at_filter (λ f. not (is_swept w f && list_any (bytes_eq f.0) names)) name files keeps
  where
    keeps : (f : File) → Among files f → bytes_eq f.0 name ≡ true → not (is_swept w f && list_any (bytes_eq f.0) names) ≡ true
    keeps f h same =
        let one : f.0 ≡ name = (bytes_eq-Decides f.0 name).0 same in
        let none : list_any (bytes_eq f.0) names ≡ false = ap (λ (n : List ℕ). list_any (bytes_eq n) names) one ∙ apart in
        rw none (and_false (is_swept w f))

-- and is the only one of its name
pub only_stays : (w : World) (names : List (List ℕ)) (name : List ℕ) (files : Files) → list_any (bytes_eq name) names ≡ false → IsOnly (Some files) name → IsOnly (Some (swept_of w names files)) name
only_stays w names name files apart only f h same =
    text_stays w names name files apart ∙ only f (filter_among (λ (g : File). not (is_swept w g && list_any (bytes_eq g.0) names)) files f h).0 same

-- a text with one block is removed where the block's file may be
pub own_goes : (w : World) (name text : List ℕ) (s : Slip) → IsOwn name text s → may_go w text ≡ may_sweep w s.num s.id
own_goes w name text s o =
    let shows : slips_in text ≡ s ∷ [] = holds_shows text o.block_type (o.block ∷ []) o.is_of.holds ∙ ap (λ (x : Slip). x ∷ []) (sym o.slip_is) in
    ap (list_any (λ x. may_sweep w x.num x.id)) shows ∙ or_false (may_sweep w s.num s.id)

module _ (w : World) (name text : List ℕ) (files : Files) (s : Slip) (inside : is_in (codes "one") name ≡ true) (only : IsOnly (Some files) name) (there : text_at name files ≡ text) (own : IsOwn name text s) where
  here : (f : File) → Among files f → bytes_eq f.0 name ≡ true → is_swept w f ≡ may_sweep w s.num s.id
  here f h same =
      let one : f.0 ≡ name = (bytes_eq-Decides f.0 name).0 same in
      let found : f.1 ≡ text = sym (ap (λ (o : Option (List ℕ)). unwrap_or o []) (only f h same)) ∙ there in
      let in_one : is_in (codes "one") f.0 ≡ true = ap (is_in (codes "one")) one ∙ inside in
      let goes : may_go w f.1 ≡ may_sweep w s.num s.id = ap (may_go w) found ∙ own_goes w name text s own in
      rw in_one goes

  by_name : (f : File) → Among files f → (b : Bool) → bytes_eq f.0 name ≡ b → (m : Bool) → may_sweep w s.num s.id ≡ m → not (is_swept w f && (b || false)) ≡ not (b && m)
  by_name f h false e m may = and_false (is_swept w f)
  by_name f h true e true may = let is : is_swept w f ≡ true = here f h e ∙ may in rw is refl
  by_name f h true e false may = let is : is_swept w f ≡ false = here f h e ∙ may in rw is refl

  true_and : (b : Bool) → (b && true) ≡ b
  true_and true = refl
  true_and false = refl

  -- the file goes
  pub one_swept : may_sweep w s.num s.id ≡ true → without_file name files ≡ swept_of w (name ∷ []) files
  one_swept may =
      filter_same (λ f. not (bytes_eq f.0 name)) (λ f. not (is_swept w f && (bytes_eq f.0 name || false))) files
      (λ f h. sym (by_name f h (bytes_eq f.0 name) refl true may ∙ ap not (true_and (bytes_eq f.0 name))))

  -- or it stays
  pub one_kept : may_sweep w s.num s.id ≡ false → files ≡ swept_of w (name ∷ []) files
  one_kept may = sym (filter_whole (λ f. not (is_swept w f && (bytes_eq f.0 name || false))) files (λ f h. by_name f h (bytes_eq f.0 name) refl false may ∙ and_false (bytes_eq f.0 name)))

list_any_there : (name : List ℕ) (names : List (List ℕ)) → Among names name → list_any (bytes_eq name) names ≡ true
list_any_there name [] h = absurd h
list_any_there name (x ∷ names) h = go (bytes_eq name x) refl h (λ k. list_any_there name names k)
  where
    go : (b : Bool) → bytes_eq name x ≡ b → Among (x ∷ names) name → (Among names name → list_any (bytes_eq name) names ≡ true) → (b || list_any (bytes_eq name) names) ≡ true
    go true e k ih = refl
    go false e (inl same) ih = absurd (both_ways _ e ((bytes_eq-Decides name x).1 (sym same)))
    go false e (inr k) ih = ih k

-- once all names of the folder were taken, all that may be removed are
pub swept_all : (w : World) (files : Files) → swept_of w (names_in (codes "one") files) files ≡ swept w files
swept_all w files = filter_same (λ f. not (is_swept w f && list_any (bytes_eq f.0) (names_in (codes "one") files))) (λ f. not (is_swept w f)) files each
  where
    each : (f : File) → Among files f → not (is_swept w f && list_any (bytes_eq f.0) (names_in (codes "one") files)) ≡ not (is_swept w f)
    each f h = go (is_in (codes "one") f.0) refl
      where
        go : (b : Bool) → is_in (codes "one") f.0 ≡ b → not ((b && may_go w f.1) && list_any (bytes_eq f.0) (names_in (codes "one") files)) ≡ not (b && may_go w f.1)
        go false e = refl
        go true e =
            let listed = among_filter (is_in (codes "one")) (names_of files) f.0 (among_map (λ (x : File). x.0) files f h) e in
            let there = list_any_there f.0 (names_in (codes "one") files) listed in
            rw there (ap not (and_true (may_go w f.1)))
          where
            and_true : (m : Bool) → (m && true) ≡ m
            and_true true = refl
            and_true false = refl
