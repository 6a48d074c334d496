-- Worked. Answers of the filter. A class that accepts requests and replies of one interface, worked
-- out.
use Rattle.std.specs.Prelude.{◌≡◌, ℕ, false, List, [], ◌∷◌, Some, None, Ok, Err, refl}
use Rattle.mrc_model.specs.declared.Denied.TheVariants.{NoSuchId, WrongShape, WrongDisposition}
use Rattle.mrc_model.specs.declared.Denied.TheVariants.{NotAdmitted}
use Rattle.mrc_model.specs.declared.LabelItem.TheVariants as label
use Rattle.mrc_model.specs.declared.RequestKind.TheVariants.{Simple}
use Rattle.mrc_model.specs.Filter.{judge}
use Rattle.mrc_model.specs.Message.{Message, Arg, Data, Ports}
use Rattle.mrc_model.specs.Wiring.{Wiring, OneOf, Shape, RequestForm, ReplyForm}
use Rattle.mrc_model.specs.Wiring.{OfRequest, OfReply, forms, admits}
use Rattle.mrc_wiring.specs.Finding.{form_at}
use Rattle.mrc_filter.specs.Places.{admitted}

-- an argument of one item of 32 bits, by its type's number and its sort's
abbrev shape : ℕ → ℕ → Shape
shape number sort = record {
  types = OneOf (number ∷ []);
  size = 32;
  number = 1;
  is_bound = false;
  sort = sort;
}

-- a simpleroutine that hands over a receive right
abbrev hand : RequestForm
hand = record {
  id = 2000;
  kind = Simple;
  shapes = shape 16 0 ∷ [];
}

-- a reply of a return code and an integer
abbrev number : ReplyForm
number =
    record { id = 1100; shapes = shape 2 1 ∷ shape 2 1 ∷ [] }

-- One wired port, of class 0, accepts both; class 1 is the kernel port of its receiver. The slot
-- admits class 0 alone.
abbrev filing : Wiring
filing = record {
  lines = [];
  tasks = 1;
  ports = 1;
  births = [];
  interfaces = record { requests = hand ∷ []; replies = number ∷ [] } ∷ [];
  labels = (label.Reply 0 ∷ label.Request 0 ∷ []) ∷ [] ∷ [];
  admitted = (0, Some 0) ∷ [];
  trusted = [];
  replies_fit = false;
}

abbrev message : ℕ → List Arg → Message
message id args = record {
  remote_disp = 19;
  local_disp = 0;
  remote = 3;
  local = 0;
  seqno = 0;
  id = id;
  args = args;
}

-- the second item has the request, the first has none of the id
second : form_at filing 0 1 2000 ≡ Some (OfRequest hand)
second = refl

first : form_at filing 0 0 2000 ≡ None
first = refl

behind : form_at filing 0 2 2000 ≡ None
behind = refl

-- a message that meets the request
met : judge filing 0 (message 2000 (Ports 16 (4 ∷ []) ∷ [])) ≡ Ok (OfRequest hand)
unfolding judge forms
met = refl

-- another disposition, another id, a class that accepts nothing
other : judge filing 0 (message 2000 (Ports 19 (4 ∷ []) ∷ [])) ≡ Err (WrongDisposition 0)
unfolding judge forms
other = refl

unknown : judge filing 0 (message 2001 []) ≡ Err NoSuchId
unfolding judge forms
unknown = refl

kernel : judge filing 1 (message 2000 (Ports 16 (4 ∷ []) ∷ [])) ≡ Err NoSuchId
unfolding judge forms
kernel = refl

-- a code that is not 0 stands alone, success does not
failed : judge filing 0 (message 1100 (Data 2 32 1 (209 ∷ 254 ∷ 255 ∷ 255 ∷ []) ∷ []))
    ≡ Ok (OfReply number)
unfolding judge forms
failed = refl

done : judge filing 0 (message 1100 (Data 2 32 1 (0 ∷ 0 ∷ 0 ∷ 0 ∷ []) ∷ [])) ≡ Err (WrongShape 1)
unfolding judge forms
done = refl

-- the slot admits ports of its own class
own : admitted filing hand.shapes 0 0 ≡ Ok tt
unfolding admits
own = refl

kernel_port : admitted filing hand.shapes 0 1 ≡ Err (NotAdmitted 0)
unfolding admits
kernel_port = refl
