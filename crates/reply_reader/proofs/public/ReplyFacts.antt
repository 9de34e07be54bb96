-- What a reply says is what its text says, and each reply is read from its text.
use Rattle.std.proofs.Common.{◌≡◌, ◌≢◌, ◌⊎◌, inl, inr, ℕ, Bool, true, false, List, [], ◌∷◌, ◌++◌, Option, None, Some, Result, Ok, Err, IfOk, refl, sym, ◌∙◌, ap, append_assoc}
use Rattle.std.specs.Prelude.{codes}
use Rattle.std.specs.Fmt.{decimal}
use Rattle.std.specs.List.{concat}
use Rattle.std.proofs.lemmas.List.{append_cancel_right}
use Rattle.std.proofs.lemmas.Option.{same_Some}
use Rattle.base64.specs.GeneralPurpose.{IsBytes, encode_of}
use Rattle.base64.specs.Engines.{standard}
use Rattle.hex.specs.Hex.{encode_lower}
use Rattle.block_record.specs.declared.blocks.Block.{Block}
use Rattle.block_record.specs.declared.blocks.BlockRef.{BlockRef}
use Rattle.block_record.specs.Records.{fields_of}
use Rattle.block_record.proofs.public.RecordFacts.{same_block}
use Rattle.chain_model.specs.declared.places.Step.{Step}
use Rattle.step_cursor.specs.declared.cursor.Cursor.{Cursor}
use Rattle.step_cursor.specs.CursorText.{cursor_text}
use Rattle.step_text.specs.StepText.{word_of}
use Rattle.text_parts.specs.Parts.{escaped}
use Rattle.reply_text.specs.Lines.{ref_text, open_line, head_line, end_line}
use Rattle.reply_text.specs.Replies.{Reply as Printed, Open, StepOf, Head, End, Error}
use Rattle.reply_text.specs.Values.{IsReadAs}
use Rattle.reply_laws.proofs.public.Readers.{whole_right}
use Rattle.reply_reader.specs.declared.replies.Reply.{Reply}
use Rattle.reply_reader.specs.declared.replies.Reply.TheVariants as reply
use Rattle.reply_reader.specs.declared.replies.ReplyFault.{ReplyFault}
use Rattle.reply_reader.specs.declared.replies.ReplyFault.TheVariants.{BadReply, Mem}
use Rattle.reply_reader.specs.Reading.{Said, StepOf, said, HasBytes, Gives, read_line}
use Rattle.reply_reader.specs.Texts.{cursor_line, old_cursor_line, IsReplyText, read_as}
use Rattle.reply_reader.proofs.public.MemberFacts.{number_then, word_then}
use Rattle.reply_reader.proofs.public.StepFacts.{fields_then, digest_then, cursor_then, step_text, old_step_text}
use Rattle.reply_reader.proofs.public.ErrorFacts.{line_end}
use Rattle.reply_reader.proofs.public.LineFacts.{ref_then, open_text, head_text, end_text, IsTextOf, Fits, HasBlock, read_again, read_takes}

-- ---- a text and its LF are the line

ref_then-text : (r : Option BlockRef) (rest : List ℕ) → ref_text r ++ rest ≡ ref_then r rest
ref_then-text None rest = refl
ref_then-text (Some r) rest = whole_right (codes "{\"num\":" ∷ decimal r.num ∷ codes ",\"id\":\"" ∷ r.id ∷ codes "\"}" ∷ []) rest

open_text-line : (type : List ℕ) (run_number : ℕ) (end lib : Option BlockRef)
    → (codes "{\"open\":\"" ++ open_text type run_number end lib) ++ 10 ∷ [] ≡ open_line type run_number (record { end = end; lib = lib })
open_text-line type run_number end lib =
    let refs : ref_text end ++ (codes ",\"lib\":" ++ (ref_text lib ++ codes "}")) ≡ ref_then end (codes ",\"lib\":" ++ ref_then lib (codes "}"))
    = ap (λ l. ref_text end ++ (codes ",\"lib\":" ++ l)) (ref_then-text lib (codes "}")) ∙ ref_then-text end (codes ",\"lib\":" ++ ref_then lib (codes "}")) in
    ap (λ l. (codes "{\"open\":\"" ++ word_then [] (escaped type) (number_then (codes ",\"run\":") 44 run_number (codes "\"end\":" ++ l))) ++ 10 ∷ []) (sym refs)
    ∙ line_end
    (codes "{\"open\":\"" ∷ escaped type ∷ codes "\",\"run\":" ∷ decimal run_number ∷ codes ",\"end\":" ∷ ref_text end ∷ codes ",\"lib\":" ∷ ref_text lib ∷ [])
    (codes "}")

head_text-line : (head : Option BlockRef) (seen : ℕ) → (codes "{\"head\":" ++ head_text head seen) ++ 10 ∷ [] ≡ head_line head seen
head_text-line head seen =
    ap (λ l. (codes "{\"head\":" ++ l) ++ 10 ∷ []) (sym (ref_then-text head (number_then (codes ",\"seen\":") 125 seen [])))
    ∙ line_end (codes "{\"head\":" ∷ ref_text head ∷ codes ",\"seen\":" ∷ decimal seen ∷ []) (codes "}")

end_text-line : (done : Bool) → (codes "{\"end\":\"" ++ end_text done) ++ 10 ∷ [] ≡ end_line done
end_text-line true = refl
end_text-line false = refl

step_text-line : (kind : Step) (b : Block) (c : Cursor) → (codes "{\"step\":\"" ++ step_text kind (fields_of b) c) ++ 10 ∷ [] ≡ cursor_line kind b c
step_text-line kind b c =
    let fronts = codes "{\"step\":\"" ∷ word_of kind ∷ codes "\",\"num\":" ∷ decimal b.num ∷ codes ",\"id\":\"" ∷ b.id ∷ codes "\",\"parent_num\":" ∷ decimal b.parent_num ∷ codes ",\"parent_id\":\"" ∷ b.parent_id
    ∷ codes "\",\"lib_num\":" ∷ decimal b.lib_num ∷ codes ",\"time\":" ∷ decimal b.time ∷ codes ",\"payload\":\"" ∷ encode_of standard b.payload ∷ codes "\",\"digest\":\"" ∷ encode_lower b.digest
    ∷ codes "\",\"cursor\":\"" ∷ [] in
    ap (λ d. (codes "{\"step\":\"" ++ word_then [] (word_of kind) (fields_then (fields_of b) (digest_then d (cursor_then c)))) ++ 10 ∷ []) (sym b.digested)
    ∙ ap (λ l. l ++ 10 ∷ []) (sym (whole_right fronts (cursor_text c ++ codes "\"}"))) ∙ append_assoc (concat fronts) (cursor_text c ++ codes "\"}") (10 ∷ [])
    ∙ ap (λ l. concat fronts ++ l) (append_assoc (cursor_text c) (codes "\"}") (10 ∷ []))

old_step_text-line : (kind : Step) (b : Block) (c : Cursor) → (codes "{\"step\":\"" ++ old_step_text kind (fields_of b) c) ++ 10 ∷ [] ≡ old_cursor_line kind b c
old_step_text-line kind b c =
    line_end
    (codes "{\"step\":\"" ∷ word_of kind ∷ codes "\",\"num\":" ∷ decimal b.num ∷ codes ",\"id\":\"" ∷ b.id ∷ codes "\",\"parent_num\":" ∷ decimal b.parent_num ∷ codes ",\"parent_id\":\"" ∷ b.parent_id
    ∷ codes "\",\"lib_num\":" ∷ decimal b.lib_num ∷ codes ",\"time\":" ∷ decimal b.time ∷ codes ",\"payload\":\"" ∷ encode_of standard b.payload ∷ codes "\",\"cursor\":\"" ∷ cursor_text c ∷ [])
    (codes "\"}")

-- ---- what is said is the reply

lines : (line text whole : List ℕ) → line ≡ text → text ++ 10 ∷ [] ≡ whole → line ++ 10 ∷ [] ≡ whole
lines line text whole is line_is = ap (λ l. l ++ 10 ∷ []) is ∙ line_is

texts : (line text whole : List ℕ) → line ++ 10 ∷ [] ≡ whole → text ++ 10 ∷ [] ≡ whole → line ≡ text
texts line text whole is line_is = append_cancel_right line text (10 ∷ []) (is ∙ sym line_is)

says : (line : List ℕ) (r : Reply) → HasBytes r → Fits (said r) → IsTextOf line (said r) → IsReplyText line r
says line (reply.Open type run_number end lib) has fits is =
    (record { named = fits.named; run_small = fits.run_small; end = fits.end_is; lib = fits.lib_is }, lines line _ _ is (open_text-line type run_number end lib))
says line (reply.Step kind b c) has fits is = record {
  block = record {
    id = fits.0.id;
    parent_id = fits.0.parent_id;
    num = fits.0.num;
    parent_num = fits.0.parent_num;
    lib_num = fits.0.lib_num;
    time = fits.0.time;
    payload = has;
  };
  cursor_is = fits.1;
  text = in_form is;
}
  where
    in_form : (line ≡ codes "{\"step\":\"" ++ step_text kind (fields_of b) c) ⊎ (line ≡ codes "{\"step\":\"" ++ old_step_text kind (fields_of b) c)
        → (line ++ 10 ∷ [] ≡ cursor_line kind b c) ⊎ (line ++ 10 ∷ [] ≡ old_cursor_line kind b c)
    in_form (inl new) = inl (lines line _ _ new (step_text-line kind b c))
    in_form (inr old) = inr (lines line _ _ old (old_step_text-line kind b c))
says line (reply.Head head seen) has fits is = (fits.0, fits.1, lines line _ _ is (head_text-line head seen))
says line (reply.End done) has fits is = lines line _ _ is (end_text-line done)
says line (reply.Error kept) has fits is = (is.0, ap (λ l. l ++ 10 ∷ []) is.1)

-- what a reply's text says
pub record IsSaid (line : List ℕ) (s : Said) : Type 0 where
  pub fits : Fits s
  pub has_block : HasBlock s
  pub text_is : IsTextOf line s

is_said : (line : List ℕ) (r : Reply) → IsReplyText line r → IsSaid line (said r)
is_said line (reply.Open type run_number end lib) is = record {
  fits = record { named = is.0.named; run_small = is.0.run_small; end_is = is.0.end; lib_is = is.0.lib };
  has_block = tt;
  text_is = texts line _ _ is.1 (open_text-line type run_number end lib);
}
is_said line (reply.Step kind b c) is = record {
  fits = (
    record {
      num = is.block.num;
      id = is.block.id;
      parent_num = is.block.parent_num;
      parent_id = is.block.parent_id;
      lib_num = is.block.lib_num;
      time = is.block.time;
    },
    is.cursor_is,
  );
  has_block = record { first = b.parent_first; small = b.small; bytes = is.block.payload };
  text_is = in_form is.text;
}
  where
    in_form : (line ++ 10 ∷ [] ≡ cursor_line kind b c) ⊎ (line ++ 10 ∷ [] ≡ old_cursor_line kind b c)
        → (line ≡ codes "{\"step\":\"" ++ step_text kind (fields_of b) c) ⊎ (line ≡ codes "{\"step\":\"" ++ old_step_text kind (fields_of b) c)
    in_form (inl new) = inl (texts line _ _ new (step_text-line kind b c))
    in_form (inr old) = inr (texts line _ _ old (old_step_text-line kind b c))
is_said line (reply.Head head seen) is = record { fits = (is.0, is.1); has_block = tt; text_is = texts line _ _ is.2 (head_text-line head seen) }
is_said line (reply.End done) is = record { fits = tt; has_block = tt; text_is = texts line _ _ is (end_text-line done) }
is_said line (reply.Error kept) is = record { fits = tt; has_block = tt; text_is = (is.0, append_cancel_right line kept (10 ∷ []) is.1) }

-- replies that say one thing are one
same_reply : (a b : Reply) → said a ≡ said b → a ≡ b
same_reply (reply.Open t m e l) (reply.Open u n f k) same =
    let type : t ≡ u = cc same in
    let run_number : m ≡ n = cc same in
    let end : e ≡ f = cc same in
    let lib : l ≡ k = cc same in
    λ i. reply.Open (type i) (run_number i) (end i) (lib i)
same_reply (reply.Step k a c) (reply.Step l b d) same =
    let kind : k ≡ l = cc same in
    let fields : fields_of a ≡ fields_of b = cc same in
    let cursor : c ≡ d = cc same in
    let block = same_block a b fields in
    λ i. reply.Step (kind i) (block i) (cursor i)
same_reply (reply.Head h m) (reply.Head k n) same =
    let head : h ≡ k = cc same in
    let seen : m ≡ n = cc same in
    λ i. reply.Head (head i) (seen i)
same_reply (reply.End a) (reply.End b) same = let done : a ≡ b = cc same in ap reply.End done
same_reply (reply.Error a) (reply.Error b) same = let line : a ≡ b = cc same in ap reply.Error line
same_reply a b same = absurd (cc same)

-- ---- the answers

-- what is read is what the line says
pub text_said : (line : List ℕ) (r : Result Reply ReplyFault) → IsBytes line → Gives said r (read_line line) → IfOk r HasBytes → IfOk r (λ reply. IsReplyText line reply)
text_said line (Err e) bytes gives has = tt
text_said line (Ok x) bytes gives has = let t = read_takes line (said x) bytes gives in says line x has t.0 t.1

-- the text of a reply is read as what it says
read_said : (line : List ℕ) (r : Reply) → IsReplyText line r → read_line line ≡ Some (said r)
read_said line r is = let t = is_said line r is in read_again line (said r) t.fits t.has_block t.text_is

pub said_back : (line : List ℕ) (r : Result Reply ReplyFault) → Gives said r (read_line line) → (x : Reply) → IsReplyText line x → r ≢ Err Mem → r ≡ Ok x
said_back line (Err Mem) gives x is apart = absurd (apart refl)
said_back line (Err BadReply) gives x is apart = absurd (let clash = sym gives ∙ read_said line x is in cc clash)
said_back line (Ok y) gives x is apart = ap Ok (same_reply y x (same_Some (said y) (said x) (sym gives ∙ read_said line x is)))

pub says_nothing : (line : List ℕ) (r : Result Reply ReplyFault) → Gives said r (read_line line) → r ≡ Err BadReply → (x : Reply) → IsReplyText line x → ⊥
says_nothing line (Ok y) gives bad x is = cc bad
says_nothing line (Err Mem) gives bad x is = cc bad
says_nothing line (Err BadReply) gives bad x is = let clash = sym gives ∙ read_said line x is in cc clash

-- ---- printed lines

-- a printed line is the text of what it is read as
pub printed_says : (line : List ℕ) (r : Printed) → IsReadAs line r → IsReplyText line (read_as r line)
printed_says line (Open type run_number place) is = (is.value, sym is.text)
printed_says line (StepOf kind b place tail) is = record { block = is.value.0; cursor_is = is.value.1; text = inl (sym is.text) }
printed_says line (Head head seen) is = (is.value.0, is.value.1, sym is.text)
printed_says line (End done) is = sym is.text
printed_says line (Error e) is = (record { error = e; value = is.value; text = sym is.text }, refl)

pub printed_is_read : (line : List ℕ) (r : Result Reply ReplyFault) → Gives said r (read_line line) → (x : Printed) → IsReadAs line x → r ≢ Err Mem → r ≡ Ok (read_as x line)
printed_is_read line r gives x is = said_back line r gives (read_as x line) (printed_says line x is)
