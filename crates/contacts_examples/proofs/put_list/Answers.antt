use Rattle.contacts_examples.proofs.put_list.Goals as goal

pub shape_of-buf : goal.shape_of-buf
shape_of-buf c = c.loop-k.invariant.3
