-- What of a generated node's lines is written, and what is kept.
use Rattle.std.proofs.Common.{arith, ◌≡◌, ◌≤◌, ◌<◌, ◌+◌, ◌-◌, ℕ, zero, suc, List, [], ◌++◌, Option, None, Some, refl, sym, ap, subst, ◌∙◌, append-nil, append_assoc}
use Rattle.command_io.specs.Streams.{SinkState}
use Rattle.outer_world.specs.Causes.{Rose}
use Rattle.outer_world.specs.Told.{Grows, GrowsByFront}
use Rattle.outer_world.proofs.public.Fronts.{grows_twice}
use Rattle.node_gen.specs.declared.generator.Generator.{Generator}
use Rattle.node_gen.specs.Generated.{lines_at, lines_up_to, opening_line, random_at, random_after}
use Rattle.node_gen.proofs.public.MadeFacts.{IsMade, none_made, one_more}
use Rattle.node_command.specs.declared.options.NodeOptions.{NodeOptions}
use Rattle.node_command.specs.Growth.{GrewBut}
use Rattle.node_command.specs.NodeRuns.{node_text, Stopped, Wrote, WroteFront}
use Rattle.node_command.specs.declared.run.NodeStop.TheVariants.{Mem, Write}

-- the generator's lines so far were written, but for those that are kept
pub record IsWritten (o : NodeOptions) (before now : SinkState) (kept : List ℕ) (g : Generator) : Type 0 where
  pub done : List ℕ
  pub grown : Grows before.written now.written done
  pub later : before.faults ≤ now.faults
  pub made : IsMade o.key o.forks o.blocks opening_line (done ++ kept) g

grows_none : (o : Option (List ℕ)) → Grows o o []
grows_none None = tt
grows_none (Some xs) = sym (append-nil xs)

pub begun : (o : NodeOptions) (now : SinkState) (kept : List ℕ) (g : Generator) → kept ≡ opening_line → g.num ≡ 0 → g.forks ≡ o.forks → g.random ≡ o.key → IsWritten o now now kept g
begun o now kept g opened num forks random = record {
  done = [];
  grown = grows_none now.written;
  later = omega arith;
  made = subst (λ (l : List ℕ). IsMade o.key o.forks o.blocks opening_line l g) (sym opened) (none_made o.key o.forks o.blocks opening_line g num forks random);
}

pub flushed : (o : NodeOptions) (before now new : SinkState) (kept rest : List ℕ) (g : Generator) → IsWritten o before now kept g → GrewBut now.written new.written kept rest → now.faults ≤ new.faults → IsWritten o before new rest g
flushed o before now new kept rest g w (front, whole, grew) later = record {
  done = w.done ++ front;
  grown = grows_twice before.written now.written new.written w.done front w.grown grew;
  later = omega (arith, w.later, later);
  made = subst (λ (l : List ℕ). IsMade o.key o.forks o.blocks opening_line l g) (ap (λ (l : List ℕ). w.done ++ l) (sym whole) ∙ sym (append_assoc w.done front rest)) w.made;
}

pub pushed : (o : NodeOptions) (before now : SinkState) (kept more : List ℕ) (g h : Generator) → IsWritten o before now kept g → g.num < o.blocks → h.num ≡ g.num + 1 → h.forks ≡ g.forks
    → h.random ≡ random_at g.forks (g.num + 1) g.random → more ≡ kept ++ lines_at g.forks (g.num + 1) h.random → IsWritten o before now more h
pushed o before now kept more g h w less num forks random text = record {
  done = w.done;
  grown = w.grown;
  later = w.later;
  made = one_more o.key o.forks o.blocks opening_line (w.done ++ kept) (w.done ++ more) g h w.made less num forks random
      (ap (λ (l : List ℕ). w.done ++ l) text ∙ sym (append_assoc w.done kept (lines_at g.forks (g.num + 1) h.random)));
}

-- lines up to a number are the front of those up to a later one
up_to_more : (key forks num more : ℕ) → (rest : List ℕ) × (lines_up_to key forks num ++ rest ≡ lines_up_to key forks (num + more))
up_to_more key forks num zero =
    let same : num ≡ num + 0 = omega arith in
    ([], append-nil (lines_up_to key forks num) ∙ ap (lines_up_to key forks) same)
up_to_more key forks num (suc more) =
    let before = up_to_more key forks num more in
    let later : suc (num + more) ≡ num + suc more = omega arith in
    let next : List ℕ = lines_at forks (suc (num + more)) (random_after key forks (suc (num + more))) in (
      before.0 ++ next,
      sym (append_assoc (lines_up_to key forks num) before.0 next) ∙ ap (λ (l : List ℕ). l ++ next) before.1 ∙ ap (lines_up_to key forks) later,
    )

-- what was written, with a front of what is kept, is a front of the whole text
front_written : (o : NodeOptions) (before now new : SinkState) (kept : List ℕ) (g : Generator) → IsWritten o before now kept g → GrowsByFront now.written new.written kept → WroteFront o before new
front_written o before now new kept g w (front, (rest, whole), grew) =
    let made = w.made in
    let later = up_to_more o.key o.forks g.num (o.blocks - g.num) in
    let count : g.num + (o.blocks - g.num) ≡ o.blocks = omega (arith, made.within) in
    let text : (w.done ++ front) ++ (rest ++ later.0) ≡ node_text o =
    append_assoc w.done front (rest ++ later.0) ∙ ap (λ (l : List ℕ). w.done ++ l) (sym (append_assoc front rest later.0)) ∙ ap (λ (l : List ℕ). w.done ++ (l ++ later.0)) whole
    ∙ sym (append_assoc w.done kept later.0) ∙ ap (λ (l : List ℕ). l ++ later.0) made.text ∙ append_assoc opening_line (lines_up_to o.key o.forks g.num) later.0
    ∙ ap (λ (l : List ℕ). opening_line ++ l) (later.1 ∙ ap (lines_up_to o.key o.forks) count) in
    (w.done ++ front, (rest ++ later.0, text), grows_twice before.written now.written new.written w.done front w.grown grew)

-- a write that failed
pub write_failed : (o : NodeOptions) (before now new : SinkState) (kept : List ℕ) (g : Generator) → IsWritten o before now kept g → GrowsByFront now.written new.written kept → Rose now.faults new.faults → Stopped Write o before new
write_failed o before now new kept g w front rose = (omega (arith, w.later, rose), front_written o before now new kept g w front)

-- no memory for the next lines
pub no_memory : (o : NodeOptions) (before now : SinkState) (kept : List ℕ) (g : Generator) → IsWritten o before now kept g → Stopped Mem o before now
no_memory o before now kept g w = front_written o before now now kept g w ([], (kept, refl), grows_none now.written)

-- at the end all is written
pub all_written : (o : NodeOptions) (before now new : SinkState) (kept : List ℕ) (g : Generator) → IsWritten o before now kept g → o.blocks ≤ g.num → Grows now.written new.written kept → Wrote o before new
all_written o before now new kept g w last grew =
    let made = w.made in
    let all : g.num ≡ o.blocks = omega (arith, made.within, last) in
    subst (Grows before.written new.written) (made.text ∙ ap (λ n. opening_line ++ lines_up_to o.key o.forks n) all) (grows_twice before.written now.written new.written w.done kept w.grown grew)
