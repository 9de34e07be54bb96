-- What a generator has made after some numbers.
use Rattle.std.proofs.Common.{arith, ◌≡◌, ◌≤◌, ◌<◌, ◌+◌, ℕ, suc, List, ◌++◌, sym, ap, ◌∙◌, append-nil, append_assoc}
use Rattle.node_gen.specs.declared.generator.Generator.{Generator}
use Rattle.node_gen.specs.Generated.{lines_at, lines_up_to, random_at, random_after}

-- a generator that made the lines up to its number, which follow what stood before
pub record IsMade (key forks blocks : ℕ) (begun out : List ℕ) (g : Generator) : Type 0 where
  pub within : g.num ≤ blocks
  pub every : g.forks ≡ forks
  pub random : g.random ≡ random_after key forks g.num
  pub text : out ≡ begun ++ lines_up_to key forks g.num

pub none_made : (key forks blocks : ℕ) (begun : List ℕ) (g : Generator) → g.num ≡ 0 → g.forks ≡ forks → g.random ≡ key → IsMade key forks blocks begun begun g
none_made key forks blocks begun g num same random = record {
  within = omega (arith, num);
  every = same;
  random = random ∙ ap (random_after key forks) (sym num);
  text = sym (append-nil begun) ∙ ap (λ n. begun ++ lines_up_to key forks n) (sym num);
}

pub one_more : (key forks blocks : ℕ) (begun out more : List ℕ) (g h : Generator) → IsMade key forks blocks begun out g → g.num < blocks → h.num ≡ g.num + 1 → h.forks ≡ g.forks
    → h.random ≡ random_at g.forks (g.num + 1) g.random → more ≡ out ++ lines_at g.forks (g.num + 1) h.random → IsMade key forks blocks begun more h
one_more key forks blocks begun out more g h made less num same random text =
    let next : h.num ≡ suc g.num = omega (arith, num) in
    let step : g.num + 1 ≡ suc g.num = omega arith in
    let now : h.random ≡ random_after key forks (suc g.num) =
    random ∙ (λ i. random_at (made.every i) (step i) (made.random i)) in
    record {
      within = omega (arith, num, less);
      every = same ∙ made.every;
      random = now ∙ ap (random_after key forks) (sym next);
      text =
          text ∙ (λ i. made.text i ++ lines_at (made.every i) (step i) (now i))
          ∙ append_assoc begun (lines_up_to key forks g.num) (lines_at forks (suc g.num) (random_after key forks (suc g.num)))
          ∙ ap (λ n. begun ++ lines_up_to key forks n) (sym next);
    }
