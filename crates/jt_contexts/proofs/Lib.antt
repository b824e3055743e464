mod MemberValues
