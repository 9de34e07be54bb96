use Rattle.std.proofs.Common.{rules, vec_len, ◌≡◌, ◌<◌, length, ◌++◌, ◌∷◌, ◌∙◌, [], List, Some, None, sym, ap, subst}
use Rattle.plant_core.specs.declared.readers.Reader.{Reader}
use Rattle.plant_core.specs.Moments.{IsReader, new_reader, place_of}
use Rattle.plant_core.proofs.ReaderFacts.{apart_last, each_last, found_at, has_none, put_last, stands_last}
use Rattle.plant_core.proofs.readers.enrol.Goals as goal

pub returns-in-Some-clause-there : goal.returns-in-Some-clause-there
returns-in-Some-clause-there c =
    let readers = c.args.readers.now.items in
    let place_is = subst (λ (l : List Reader). place_of c.args.name.now l ≡ Some c.in-Some.place) c.as_slice.ensures.value (sym c.in-Some.ensures.place) in
    let within = subst (λ (l : List Reader). c.in-Some.place < length l) c.as_slice.ensures.value c.in-Some.ensures.within in
    (found_at c.args.max c.args.name.now readers c.in-Some.place place_is within c.requires.apart).0

pub returns-in-Some-clause-readers : goal.returns-in-Some-clause-readers
returns-in-Some-clause-readers c =
    let readers = c.args.readers.now.items in
    let place_is = subst (λ (l : List Reader). place_of c.args.name.now l ≡ Some c.in-Some.place) c.as_slice.ensures.value (sym c.in-Some.ensures.place) in
    let within = subst (λ (l : List Reader). c.in-Some.place < length l) c.as_slice.ensures.value c.in-Some.ensures.within in
    (found_at c.args.max c.args.name.now readers c.in-Some.place place_is within c.requires.apart).1

pub returns-in_ok-push-in-None-clause-there : goal.returns-in_ok-push-in-None-clause-there
returns-in_ok-push-in-None-clause-there c =
    let readers = c.args.readers.now.items in
    let none = has_none c.args.max c.args.name.now readers (subst (λ (l : List Reader). place_of c.args.name.now l ≡ None) c.as_slice.ensures.value (sym c.in-None.ensures.place)) in
    let now = new_reader c.args.max c.args.name.now in
    let items = c.in_ok-push-in-None.ensures.items ∙ ap (λ (r : Reader). readers ++ r ∷ []) c.in_ok-new_reader-in-None.ensures.reader in
    let len : vec_len c.args.readers.now ≡ length readers = search rules in
    rw (items, (put_last c.args.max c.args.name.now readers none).0, c.len-place.ensures, len) (stands_last now readers)

pub returns-in_ok-push-in-None-clause-readers : goal.returns-in_ok-push-in-None-clause-readers
returns-in_ok-push-in-None-clause-readers c =
    let readers = c.args.readers.now.items in
    let none = has_none c.args.max c.args.name.now readers (subst (λ (l : List Reader). place_of c.args.name.now l ≡ None) c.as_slice.ensures.value (sym c.in-None.ensures.place)) in
    let items = c.in_ok-push-in-None.ensures.items ∙ ap (λ (r : Reader). readers ++ r ∷ []) c.in_ok-new_reader-in-None.ensures.reader in
    let last = put_last c.args.max c.args.name.now readers none in
    rw (items, last.0) last.1

pub returns-in_ok-push-in-None-clause-each : goal.returns-in_ok-push-in-None-clause-each
returns-in_ok-push-in-None-clause-each c =
    rw (c.in_ok-push-in-None.ensures.items) (each_last IsReader c.in_ok-new_reader-in-None.field-0 c.args.readers.now.items c.requires.each c.in_ok-new_reader-in-None.ensures.named)

pub returns-in_ok-push-in-None-clause-apart : goal.returns-in_ok-push-in-None-clause-apart
returns-in_ok-push-in-None-clause-apart c =
    let readers = c.args.readers.now.items in
    let none = has_none c.args.max c.args.name.now readers (subst (λ (l : List Reader). place_of c.args.name.now l ≡ None) c.as_slice.ensures.value (sym c.in-None.ensures.place)) in
    let items = c.in_ok-push-in-None.ensures.items ∙ ap (λ (r : Reader). readers ++ r ∷ []) c.in_ok-new_reader-in-None.ensures.reader in
    rw (items) (apart_last (new_reader c.args.max c.args.name.now) readers none c.requires.apart)
