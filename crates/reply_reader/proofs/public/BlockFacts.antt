-- The members of a block, read one after another.
use Rattle.std.proofs.Common.{◌≡◌, ℕ, List, Some, refl}
use Rattle.std.specs.Prelude.{codes}
use Rattle.block_record.specs.Number.{number_of}
use Rattle.fire_lines.specs.Fields.{id_of, payload_of}
use Rattle.reply_reader.specs.declared.lines.Names.{Names}
use Rattle.reply_reader.specs.Parts.{member}
use Rattle.reply_reader.specs.Reading.{any_names_at, names_at, block_at}

-- where each member is there, so are the names
pub any_names_are : (text t1 t2 t3 t4 : List ℕ) (num : ℕ) (id : List ℕ) (parent_num : ℕ) (parent_id : List ℕ)
    → member (codes ",\"num\":") 44 number_of text ≡ Some (num, t1) → member (codes "\"id\":\"") 34 id_of t1 ≡ Some (id, t2)
    → member (codes ",\"parent_num\":") 44 number_of t2 ≡ Some (parent_num, t3) → member (codes "\"parent_id\":\"") 34 id_of t3 ≡ Some (parent_id, t4)
    → any_names_at text ≡ Some (record { num = num; id = id; parent_num = parent_num; parent_id = parent_id }, t4)
unfolding any_names_at
any_names_are text t1 t2 t3 t4 num id parent_num parent_id e1 e2 e3 e4 = rw (e1, e2, e3, e4) refl

-- and so is the block
pub block_is : (text t1 t2 t3 t4 : List ℕ) (n : Names) (lib_num time : ℕ) (payload : List ℕ)
    → names_at text ≡ Some (n, t1) → member (codes ",\"lib_num\":") 44 number_of t1 ≡ Some (lib_num, t2)
    → member (codes "\"time\":") 44 number_of t2 ≡ Some (time, t3) → member (codes "\"payload\":\"") 34 payload_of t3 ≡ Some (payload, t4)
    → block_at text ≡ Some (record { num = n.num; parent_num = n.parent_num; lib_num = lib_num; time = time; id = n.id; parent_id = n.parent_id; payload = payload }, t4)
unfolding block_at
block_is text t1 t2 t3 t4 n lib_num time payload e1 e2 e3 e4 = rw (e1, e2, e3, e4) refl
