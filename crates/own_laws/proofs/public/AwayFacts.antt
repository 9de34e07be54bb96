-- Files that stay, and own files that come from where they may.
use Rattle.std.proofs.Common.{◌≡◌, ◌⊎◌, inl, inr, ℕ, true, false, List, Option, Some, None, refl, sym, ◌∙◌, ap, subst}
use Rattle.std.specs.Prelude.{codes}
use Rattle.std.specs.List.{AllByRecursion}
use Rattle.std.specs.Str.{bytes_eq}
use Rattle.std.proofs.lemmas.Bool.{both_ways, false_from_ne_true}
use Rattle.std.proofs.lemmas.Slice.Eq.{bytes_eq-Decides}
use Rattle.block_record.specs.declared.blocks.Slip.{Slip}
use Rattle.block_record.specs.Texts.{IsReaderName}
use Rattle.outer_world.specs.Files.{Files, file_at, is_in}
use Rattle.outer_world.specs.Shelves.{told_with, told_without}
use Rattle.outer_world.proofs.public.FileFacts.{file_at-with_other, file_at-without_other}
use Rattle.one_block.specs.Names.{one_block_name, own_file}
use Rattle.bundle_model.specs.Members.{Among}
use Rattle.bundle_model.proofs.public.MemberFacts.{all_among, among_all}
use Rattle.store_files.proofs.public.KeptFacts.{refused_other}
use Rattle.block_reader.specs.declared.own.OwnFile.{OwnFile}
use Rattle.block_reader.specs.Changes.{Shelved, refused_file}
use Rattle.block_reader.specs.Kept.{AreOwn, HoldsOwn}
use Rattle.own_laws.specs.Away.{AreBy, IsAway, IsBy, KeepsAway, TakesAway}
use Rattle.own_laws.specs.Laws.{NothingStaysAway, OthersStay, OwnStayBy, TakesGoOn}
use Rattle.own_laws.proofs.public.ReaderNames.{readers_apart}

-- ---- files that stay

pub keeps_equal : (by : List ℕ) (own : List OwnFile) (old new : Option Files) → new ≡ old → KeepsAway by own old new
keeps_equal by own old new e = subst (KeepsAway by own old) (sym e) (same old)
  where
    same : (files : Option Files) → KeepsAway by own files files
    same None = refl
    same (Some files) = λ name away. refl

pub keeps_on : (by : List ℕ) (own : List OwnFile) (old mid new : Option Files) → KeepsAway by own old mid → KeepsAway by own mid new → KeepsAway by own old new
keeps_on by own None mid new p q = subst (λ (o : Option Files). KeepsAway by own o new) p q
keeps_on by own (Some old) None new p q = absurd p
keeps_on by own (Some old) (Some mid) None p q = absurd q
keeps_on by own (Some old) (Some mid) (Some new) p q = λ name away. q name away ∙ p name away

-- beside other own files, where less is away from them
keeps_beside : (by : List ℕ) (own later : List OwnFile) (old new : Option Files) → ((name : List ℕ) → IsAway by own name → IsAway by later name) → KeepsAway by later old new → KeepsAway by own old new
keeps_beside by own later None new less p = p
keeps_beside by own later (Some old) None less p = p
keeps_beside by own later (Some old) (Some new) less p = λ name away. p name (less name away)

-- a name is none of those that are away
abbrev pub IsNear : List ℕ → List OwnFile → List ℕ → Type 0
IsNear by own name = (other : List ℕ) → IsAway by own other → bytes_eq name other ≡ false

pub keeps_with : (by : List ℕ) (own : List OwnFile) (name text : List ℕ) (files : Option Files) → IsNear by own name → KeepsAway by own files (told_with name text files)
keeps_with by own name text None near = refl
keeps_with by own name text (Some files) near = λ other away. file_at-with_other name text other files (near other away)

pub keeps_without : (by : List ℕ) (own : List OwnFile) (name : List ℕ) (files : Option Files) → IsNear by own name → KeepsAway by own files (told_without name files)
keeps_without by own name None near = refl
keeps_without by own name (Some files) near = λ other away. file_at-without_other name other files (near other away)

-- ---- takes one after another

pub nothing_stays_away : NothingStaysAway
nothing_stays_away by s = record { files = keeps_equal by s.own s.files s.files refl; own = all_among (λ f. Among s.own f ⊎ IsBy by f) s.own (λ f h. inl h) }

-- what is away before a take is away after it
pub away_later : (by : List ℕ) (old new : Shelved) → TakesAway by old new → (name : List ℕ) → IsAway by old.own name → IsAway by new.own name
away_later by old new t name away = record {
  listed = all_among (λ f. bytes_eq f.name name ≡ false) new.own (λ f h.
      elim (among_all (λ g. Among old.own g ⊎ IsBy by g) new.own t.own f h) [
        | inl was ↦ among_all (λ g. bytes_eq g.name name ≡ false) old.own away.listed f was
        | inr is ↦ subst (λ (g : OwnFile). bytes_eq g.name name ≡ false) (sym is.is) (away.one is.slip)
      ]);
  one = away.one;
  refused = away.refused;
}

pub takes_go_on : TakesGoOn
takes_go_on by old mid new t u = record {
  files = keeps_on by old.own old.files mid.files new.files t.files (keeps_beside by old.own mid.own mid.files new.files (away_later by old mid t) u.files);
  own = all_among (λ f. Among old.own f ⊎ IsBy by f) new.own (λ f h.
      elim (among_all (λ g. Among mid.own g ⊎ IsBy by g) new.own u.own f h) [
        | inl was ↦ among_all (λ g. Among old.own g ⊎ IsBy by g) mid.own t.own f was
        | inr is ↦ inr is
      ]);
}

pub own_stay_by : OwnStayBy
own_stay_by by old new t all = all_among (IsBy by) new.own (λ f h.
    elim (among_all (λ g. Among old.own g ⊎ IsBy by g) new.own t.own f h) [
      | inl was ↦ among_all (IsBy by) old.own all f was
      | inr is ↦ is
    ])

-- ---- own files of another reader

-- own files whose files stand as before are there as before
pub own_stay : (files new : Files) (own : List OwnFile) → ((f : OwnFile) → Among own f → is_in (codes "one") f.name ≡ true → file_at f.name new ≡ file_at f.name files)
    → AllByRecursion (HoldsOwn files) own → AllByRecursion (HoldsOwn new) own
own_stay files new own same all = all_among (HoldsOwn new) own (λ f there.
    let h = among_all (HoldsOwn files) own all f there in
    record {
      inside = h.inside;
      text = h.text;
      block_type = h.block_type;
      block = h.block;
      there = same f there h.inside ∙ h.there;
      holds = h.holds;
      num = h.num;
      id = h.id;
    })

-- a name of another folder is no name of `one/`
pub outside_apart : (name other : List ℕ) → is_in (codes "one") name ≡ false → is_in (codes "one") other ≡ true → bytes_eq name other ≡ false
outside_apart name other out inside = false_from_ne_true (bytes_eq name other) (λ same.
    both_ways (is_in (codes "one") name) out (ap (is_in (codes "one")) ((bytes_eq-Decides name other).0 same) ∙ inside))

module _ (by by' : List ℕ) (reader : IsReaderName by) (reader' : IsReaderName by') (apart : by ≡ by' → ⊥) (own : List OwnFile) (owned : AreBy by own) where
  -- an own file of another reader is away
  pub other_away : (f : OwnFile) → IsBy by' f → is_in (codes "one") f.name ≡ true → IsAway by own f.name
  other_away f is inside = record {
    listed = all_among (λ g. bytes_eq g.name f.name ≡ false) own (λ g h.
        let mine = among_all (IsBy by) own owned g h in
        subst (λ (x : OwnFile). bytes_eq x.name f.name ≡ false) (sym mine.is) (no_own mine.slip));
    one = no_own;
    refused = λ s. outside_apart (refused_file s by) f.name (refused_other (one_block_name s by)).one inside;
  }
    where
      no_own : (s : Slip) → bytes_eq (own_file s by) f.name ≡ false
      no_own s = subst (λ (x : OwnFile). bytes_eq (own_file s by) x.name ≡ false) (sym is.is) (readers_apart s is.slip by by' reader reader' apart)

pub others_stay : OthersStay
others_stay by by' own other None new reader reader' apart owned theirs kept all = subst (λ (o : Option Files). AreOwn o other) (sym kept) tt
others_stay by by' own other (Some files) None reader reader' apart owned theirs kept all = absurd kept
others_stay by by' own other (Some files) (Some now) reader reader' apart owned theirs kept all =
    own_stay files now other (λ f there inside. kept f.name (other_away by by' reader reader' apart own owned f (among_all (IsBy by') other theirs f there) inside)) all
