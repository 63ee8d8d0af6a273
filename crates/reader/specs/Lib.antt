-- where the parts are
pub mod Places
