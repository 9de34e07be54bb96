use Rattle.replay_text.proofs.answers.push_kind_fault.Goals as goal

pub returns-in-KindClash-clause-ok : goal.returns-in-KindClash-clause-ok
returns-in-KindClash-clause-ok c = rw (c.in-KindClash.is, ← c.as_bytes.ensures.text, ← c.as_bytes-in-KindClash.ensures.text) c.push_texts.ensures.ok
