use Rattle.std.proofs.Common.{◌∙◌, ◌^◌, lit≤}
use Rattle.std.proofs.Math.Nat.{le_trans}
use Rattle.affine.proofs.Bits.{AreRead-bound, answer_size, factor_size, narrow, narrow-size, part_size, products-read, same_parts, wide}
use Rattle.affine.proofs.map.multiplied.Goals as goal

pub sum_of_products-requires : goal.sum_of_products-requires
sum_of_products-requires c =
    let left = c.args.left.now in
    let right = c.args.right.now in
    let l = c.requires.left_bound in
    let r = c.requires.right_bound in
    record {
      a_size = part_size left.a l.a;
      x_size = factor_size right.a (wide _ r.a);
      c_size = part_size left.c l.c;
      y_size = factor_size right.b (wide _ r.b);
    }

pub sum_of_products-requires-2 : goal.sum_of_products-requires-2
sum_of_products-requires-2 c =
    let left = c.args.left.now in
    let right = c.args.right.now in
    let l = c.requires.left_bound in
    let r = c.requires.right_bound in
    record {
      a_size = part_size left.b l.b;
      x_size = factor_size right.a (wide _ r.a);
      c_size = part_size left.d l.d;
      y_size = factor_size right.b (wide _ r.b);
    }

pub sum_of_products-requires-3 : goal.sum_of_products-requires-3
sum_of_products-requires-3 c =
    let left = c.args.left.now in
    let right = c.args.right.now in
    let l = c.requires.left_bound in
    let r = c.requires.right_bound in
    record {
      a_size = part_size left.a l.a;
      x_size = factor_size right.c (wide _ r.c);
      c_size = part_size left.c l.c;
      y_size = factor_size right.d (wide _ r.d);
    }

pub sum_of_products-requires-4 : goal.sum_of_products-requires-4
sum_of_products-requires-4 c =
    let left = c.args.left.now in
    let right = c.args.right.now in
    let l = c.requires.left_bound in
    let r = c.requires.right_bound in
    record {
      a_size = part_size left.b l.b;
      x_size = factor_size right.c (wide _ r.c);
      c_size = part_size left.d l.d;
      y_size = factor_size right.d (wide _ r.d);
    }

pub sum_of_products-requires-5 : goal.sum_of_products-requires-5
sum_of_products-requires-5 c =
    let left = c.args.left.now in
    let right = c.args.right.now in
    let l = c.requires.left_bound in
    let r = c.requires.right_bound in
    record {
      a_size = part_size left.a l.a;
      x_size = factor_size right.e r.e;
      c_size = part_size left.c l.c;
      y_size = factor_size right.f r.f;
    }

pub sum_of_products-requires-6 : goal.sum_of_products-requires-6
sum_of_products-requires-6 c =
    let left = c.args.left.now in
    let right = c.args.right.now in
    let l = c.requires.left_bound in
    let r = c.requires.right_bound in
    record {
      a_size = part_size left.b l.b;
      x_size = factor_size right.e r.e;
      c_size = part_size left.d l.d;
      y_size = factor_size right.f r.f;
    }

pub moved-requires : goal.moved-requires
moved-requires c = record {
  sum_size = narrow-size c.sum_of_products-5.result (2 ^ 116) c.sum_of_products-5.ensures.size (lit≤ tt);
  e_size = narrow-size c.args.left.now.e (2 ^ 70) c.requires.left_bound.e (lit≤ tt);
  q_size = part_size c.args.right.now.q c.requires.right_bound.q;
}

pub moved-requires-2 : goal.moved-requires-2
moved-requires-2 c = record {
  sum_size = narrow-size c.sum_of_products-6.result (2 ^ 116) c.sum_of_products-6.ensures.size (lit≤ tt);
  e_size = narrow-size c.args.left.now.f (2 ^ 70) c.requires.left_bound.f (lit≤ tt);
  q_size = part_size c.args.right.now.q c.requires.right_bound.q;
}

pub times-requires : goal.times-requires
times-requires c = record {
  a_size = part_size c.args.left.now.q c.requires.left_bound.q;
  x_size = factor_size c.args.right.now.q (wide _ c.requires.right_bound.q);
}

pub returns-clause-size : goal.returns-clause-size
returns-clause-size c = record {
  a = answer_size c.sum_of_products.result (le_trans c.sum_of_products.ensures.size (lit≤ tt));
  b = answer_size c.sum_of_products-2.result (le_trans c.sum_of_products-2.ensures.size (lit≤ tt));
  c = answer_size c.sum_of_products-3.result (le_trans c.sum_of_products-3.ensures.size (lit≤ tt));
  d = answer_size c.sum_of_products-4.result (le_trans c.sum_of_products-4.ensures.size (lit≤ tt));
  e = answer_size c.moved.result (le_trans c.moved.ensures.size (lit≤ tt));
  f = answer_size c.moved-2.result (le_trans c.moved-2.ensures.size (lit≤ tt));
  q = answer_size c.times.result (le_trans c.times.ensures.size (lit≤ tt));
}

-- each part is what its call answers, without the casts between
pub returns-clause-value : goal.returns-clause-value
returns-clause-value c =
    let left = c.args.left.now in
    let right = c.args.right.now in
    let l = c.requires.left_bound in
    let r = c.requires.right_bound in
    let left_read = AreRead-bound c.args.left.now l in
    let right_read = AreRead-bound c.args.right.now r in
    let a =
    products-read left.a right.a left.c right.b c.sum_of_products.result
    l.a (wide _ r.a) l.c (wide _ r.b) c.sum_of_products.ensures.size c.sum_of_products.ensures.value
    in
    let b =
    products-read left.b right.a left.d right.b c.sum_of_products-2.result
    l.b (wide _ r.a) l.d (wide _ r.b) c.sum_of_products-2.ensures.size c.sum_of_products-2.ensures.value
    in
    let c' =
    products-read left.a right.c left.c right.d c.sum_of_products-3.result
    l.a (wide _ r.c) l.c (wide _ r.d) c.sum_of_products-3.ensures.size c.sum_of_products-3.ensures.value
    in
    let d =
    products-read left.b right.c left.d right.d c.sum_of_products-4.result
    l.b (wide _ r.c) l.d (wide _ r.d) c.sum_of_products-4.ensures.size c.sum_of_products-4.ensures.value
    in
    let sum_e =
    products-read left.a right.e left.c right.f c.sum_of_products-5.result
    l.a r.e l.c r.f c.sum_of_products-5.ensures.size c.sum_of_products-5.ensures.value
    in
    let sum_f =
    products-read left.b right.e left.d right.f c.sum_of_products-6.result
    l.b r.e l.d r.f c.sum_of_products-6.ensures.size c.sum_of_products-6.ensures.value
    in
    let e =
    narrow c.moved.result (le_trans c.moved.ensures.size (lit≤ tt)) ∙ rw (sum_e, left_read.e, right_read.q) at c.moved.ensures.value
    in
    let f =
    narrow c.moved-2.result (le_trans c.moved-2.ensures.size (lit≤ tt)) ∙ rw (sum_f, left_read.f, right_read.q) at c.moved-2.ensures.value
    in
    let q =
    narrow c.times.result (le_trans c.times.ensures.size (lit≤ tt)) ∙ rw (left_read.q, right_read.q) at c.times.ensures.value
    in
    same_parts a b c' d e f q
