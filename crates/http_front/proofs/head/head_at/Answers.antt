use Rattle.std.proofs.Common.{◌∙◌, sym, ap, refl}
use Rattle.http_front.specs.Route.{limit_of}
use Rattle.http_front.specs.Fields.{fields_at}
use Rattle.http_front.specs.RequestHead.{judged, judged_by, has_coding, body_length, has_host, method_of}
use Rattle.http_front.proofs.head.head_at.Goals as goal

pub returns-in-Err : goal.returns-in-Err
unfolding judged_by
returns-in-Err c =
    let fields = fields_at c.args.front.now c.args.headers.now in
    let method = c.method_of-method.ensures ∙ ap method_of c.of.ensures in
    sym (c.in-Err.ensures ∙ (λ i. judged (has_coding fields) (body_length fields) (has_host c.args.spans.version fields) (limit_of (method i) (c.requires.target i))))

pub returns : goal.returns
unfolding judged_by
returns c =
    let fields = fields_at c.args.front.now c.args.headers.now in
    let method = c.method_of-method.ensures ∙ ap method_of c.of.ensures in
    record {
      used = refl;
      body = sym (c.in-Ok.ensures ∙ (λ i. judged (has_coding fields) (body_length fields) (has_host c.args.spans.version fields) (limit_of (method i) (c.requires.target i))));
      expects_is = c.expects.ensures;
      closes_is = c.closes.ensures;
      method = method;
      target = c.in_ok-copy.ensures.value ∙ c.requires.target;
      token = c.read_token.ensures;
      tag = c.read_tag.ensures;
    }
